pub mod NumberingLemmas
pub mod ReplyLemmas
pub mod HistoryLemmas
pub mod SettleLemmas
pub mod TurnLemmas
pub mod AnsweredLemmas
pub mod TableLemmas
