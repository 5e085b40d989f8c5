pub mod WaitFoundLemmas
pub mod Examples
pub mod TimesLemmas
pub mod TimesFoundLemmas
pub mod RingFoundLemmas
pub mod ToldLemmas
