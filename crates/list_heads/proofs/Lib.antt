pub mod GrammarHeads
pub mod NumberedHeads
pub mod ProgramHeads
pub mod ResolvedHeads
pub mod TreeHeads
pub mod WrittenHeads
