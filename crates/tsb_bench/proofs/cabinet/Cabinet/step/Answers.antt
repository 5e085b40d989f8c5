use Rattle.std.proofs.Common.{◌∙◌, ap, refl}
use Rattle.tsb_bench.specs.Cabinet.{IsShut}
use Rattle.tsb_bench.specs.declared.cabinet.Cabinet.{Cabinet}
use Rattle.tsb_bench.specs.declared.passing.Passing.{Passing}
use Rattle.tsb_bench.proofs.PassingLemmas.{may_none}
use Rattle.tsb_bench.proofs.cabinet.Cabinet.step.Goals as goal

still : (c : Cabinet) (p : Passing) → IsShut c → IsShut (record c { passing = p })
still c p shut = record { desk = shut.desk; controller = shut.controller; monitor = shut.monitor }

pub set_pattern-requires : goal.set_pattern-requires
set_pattern-requires c = record { shut = still c.args.self.now c.none-self.result c.requires.shut; by = c.requires.by; allowed = rw c.in-Pattern.is at c.requires.allowed; in_time = c.requires.limit; empty = c.requires.empty }

pub returns-in-Pattern : goal.returns-in-Pattern
returns-in-Pattern c =
    let passing = may_none c.args.tick c.set_pattern.new.self (ap (λ (p : Passing). p.last) c.set_pattern.ensures.passing ∙ c.none-self.ensures) in
    rw c.in-Pattern.is (record { next = refl; done = c.set_pattern.ensures.done; few = c.set_pattern.ensures.few; shut = c.set_pattern.ensures.shut; passing = passing })

pub set_clock-requires : goal.set_clock-requires
set_clock-requires c = record { shut = still c.args.self.now c.none-self.result c.requires.shut; by = c.requires.by; in_time = c.requires.limit; empty = c.requires.empty }

pub returns-in-Clock : goal.returns-in-Clock
returns-in-Clock c =
    let passing = may_none c.args.tick c.set_clock.new.self (ap (λ (p : Passing). p.last) c.set_clock.ensures.passing ∙ c.none-self.ensures) in
    rw c.in-Clock.is (record { next = refl; done = c.set_clock.ensures.done; few = c.set_clock.ensures.few; shut = c.set_clock.ensures.shut; passing = passing })

pub omit-requires : goal.omit-requires
omit-requires c = record { shut = still c.args.self.now c.none-self.result c.requires.shut; by = c.requires.by; allowed = rw c.in-Omit.is at c.requires.allowed; empty = c.requires.empty }

pub returns-in-Omit : goal.returns-in-Omit
returns-in-Omit c =
    let passing = may_none c.args.tick c.omit.new.self (ap (λ (p : Passing). p.last) c.omit.ensures.passing ∙ c.none-self.ensures) in
    rw c.in-Omit.is (record { next = refl; done = c.omit.ensures.done; few = c.omit.ensures.few; shut = c.omit.ensures.shut; passing = passing })

pub switch-requires : goal.switch-requires
switch-requires c = record { shut = still c.args.self.now c.none-self.result c.requires.shut; by = c.requires.by; allowed = rw c.in-Switch.is at c.requires.allowed; empty = c.requires.empty }

pub returns-in-Switch : goal.returns-in-Switch
returns-in-Switch c =
    let passing = may_none c.args.tick c.switch.new.self (ap (λ (p : Passing). p.last) c.switch.ensures.passing ∙ c.none-self.ensures) in
    rw c.in-Switch.is (record { next = refl; done = c.switch.ensures.done; few = c.switch.ensures.few; shut = c.switch.ensures.shut; passing = passing })

pub light-requires : goal.light-requires
light-requires c = record { shut = still c.args.self.now c.none-self.result c.requires.shut; by = c.requires.by; empty = c.requires.empty }

pub returns-in-Fault : goal.returns-in-Fault
returns-in-Fault c =
    let passing = may_none c.args.tick c.light.new.self (ap (λ (p : Passing). p.last) c.light.ensures.passing ∙ c.none-self.ensures) in
    rw c.in-Fault.is (record { next = refl; done = c.light.ensures.done; few = c.light.ensures.few; shut = c.light.ensures.shut; passing = passing })

pub reset-requires : goal.reset-requires
reset-requires c = record { shut = still c.args.self.now c.none-self.result c.requires.shut; by = c.requires.by; in_time = c.requires.limit; empty = c.requires.empty }

pub returns-in-Reset : goal.returns-in-Reset
returns-in-Reset c =
    let passing = may_none c.args.tick c.reset.new.self (ap (λ (p : Passing). p.last) c.reset.ensures.passing ∙ c.none-self.ensures) in
    rw c.in-Reset.is (record { next = refl; done = c.reset.ensures.done; few = c.reset.ensures.few; shut = c.reset.ensures.shut; passing = passing })

pub begin-requires : goal.begin-requires
begin-requires c = record { shut = still c.args.self.now c.none-self.result c.requires.shut; by = c.requires.by; allowed = rw c.in-Begin.is at c.requires.allowed; empty = c.requires.empty }

pub returns-in-Begin : goal.returns-in-Begin
returns-in-Begin c =
    let passing = may_none c.args.tick c.begin.new.self (ap (λ (p : Passing). p.last) c.begin.ensures.passing ∙ c.none-self.ensures) in
    rw c.in-Begin.is (record { next = refl; done = c.begin.ensures.done; few = c.begin.ensures.few; shut = c.begin.ensures.shut; passing = passing })

pub set-requires : goal.set-requires
set-requires c = record { shut = still c.args.self.now c.none-self.result c.requires.shut; by = c.requires.by; allowed = rw c.in-Set.is at c.requires.allowed; empty = c.requires.empty }

pub returns-in-Set : goal.returns-in-Set
returns-in-Set c =
    let passing = may_none c.args.tick c.set.new.self (ap (λ (p : Passing). p.last) c.set.ensures.passing ∙ c.none-self.ensures) in
    rw c.in-Set.is (record { next = refl; done = c.set.ensures.done; few = c.set.ensures.few; shut = c.set.ensures.shut; passing = passing })

pub verify-requires : goal.verify-requires
verify-requires c = record { shut = still c.args.self.now c.none-self.result c.requires.shut; by = c.requires.by; allowed = rw c.in-Verify.is at c.requires.allowed; empty = c.requires.empty }

pub returns-in-Verify : goal.returns-in-Verify
returns-in-Verify c =
    let passing = may_none c.args.tick c.verify.new.self (ap (λ (p : Passing). p.last) c.verify.ensures.passing ∙ c.none-self.ensures) in
    rw c.in-Verify.is (record { next = refl; done = c.verify.ensures.done; few = c.verify.ensures.few; shut = c.verify.ensures.shut; passing = passing })

pub commit-requires : goal.commit-requires
commit-requires c = record { shut = still c.args.self.now c.none-self.result c.requires.shut; by = c.requires.by; good = c.requires.good.good; allowed = rw c.in-Commit.is at c.requires.allowed; empty = c.requires.empty }

pub returns-in-Commit : goal.returns-in-Commit
returns-in-Commit c =
    let passing = may_none c.args.tick c.commit.new.self (ap (λ (p : Passing). p.last) c.commit.ensures.passing ∙ c.none-self.ensures) in
    rw c.in-Commit.is (record { next = refl; done = c.commit.ensures.done; few = c.commit.ensures.few; shut = c.commit.ensures.shut; passing = passing })

pub abort-requires : goal.abort-requires
abort-requires c = record { shut = still c.args.self.now c.none-self.result c.requires.shut; by = c.requires.by; allowed = rw c.in-Abort.is at c.requires.allowed; empty = c.requires.empty }

pub returns-in-Abort : goal.returns-in-Abort
returns-in-Abort c =
    let passing = may_none c.args.tick c.abort.new.self (ap (λ (p : Passing). p.last) c.abort.ensures.passing ∙ c.none-self.ensures) in
    rw c.in-Abort.is (record { next = refl; done = c.abort.ensures.done; few = c.abort.ensures.few; shut = c.abort.ensures.shut; passing = passing })
