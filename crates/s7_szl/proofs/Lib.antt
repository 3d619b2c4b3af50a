pub mod RecordLemmas
pub mod WriteLemmas
pub mod TableLemmas
pub mod JoinLemmas
