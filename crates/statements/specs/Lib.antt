pub mod Clauses
pub mod Kind
pub mod Literals
pub mod Making
pub mod ClauseLaws
pub mod LiteralLaws
