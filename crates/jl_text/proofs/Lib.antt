mod Rows
mod NoticeRows
pub mod EscapeLemmas
pub mod LaneLemmas
pub mod RawLemmas
pub mod CleanLemmas
pub mod WideLemmas
pub mod LabelLemmas
pub mod StatementLemmas
pub mod StringLemmas
pub mod PlaceLemmas
