-- The names of devices, one after the other.
use Rattle.std.proofs.Common.{◌≡◌, ℕ, ◌+◌, ◌-◌, ◌<◌, ◌≤◌, suc, List, ◌++◌, sym, ap, ◌∙◌, arith, append_assoc, append-nil}
use Rattle.tsb_field_streams.specs.Devices.{device_text, devices_from}
use Rattle.tsb_field_streams.specs.declared.filter.devices.Devices.{Devices}

-- the name of the next device, and those after it
names-more : (devices : Devices) (k most : ℕ) → k < most
    → devices_from devices k (most - k) ≡ device_text devices k ++ devices_from devices (k + 1) (most - (k + 1))
unfolding devices_from
names-more devices k most lt =
    let more : most - k ≡ suc (most - (k + 1)) = omega (arith, lt) in
    let next : suc k ≡ k + 1 = omega arith in
    ap (λ (n : ℕ). devices_from devices k n) more ∙ ap (λ (n : ℕ). device_text devices k ++ devices_from devices n (most - (k + 1))) next

-- where all devices were named
pub names-all : (devices : Devices) (k most : ℕ) (all whole : List ℕ) → most ≤ k → all ++ devices_from devices k (most - k) ≡ whole → all ≡ whole
unfolding devices_from
names-all devices k most all whole le is =
    let none : most - k ≡ 0 = omega (arith, le) in
    sym (append-nil all) ∙ ap (λ (n : ℕ). all ++ devices_from devices k n) (sym none) ∙ is

-- after the next device
pub names-next : (devices : Devices) (k most : ℕ) (all more whole : List ℕ) → k < most → more ≡ all ++ device_text devices k → all ++ devices_from devices k (most - k) ≡ whole
    → more ++ devices_from devices (k + 1) (most - (k + 1)) ≡ whole
names-next devices k most all more whole lt added is =
    ap (λ (ts : List ℕ). ts ++ devices_from devices (k + 1) (most - (k + 1))) added
    ∙ (append_assoc all (device_text devices k) (devices_from devices (k + 1) (most - (k + 1)))
    ∙ (ap (λ (ts : List ℕ). all ++ ts) (sym (names-more devices k most lt)) ∙ is))
