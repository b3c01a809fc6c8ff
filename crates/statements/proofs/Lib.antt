pub mod MakeLaws
pub mod PairLaws
