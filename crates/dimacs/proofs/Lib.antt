pub mod AcceptLaws
pub mod DenoteLaws
mod Handed
pub mod PlainClauses
pub mod PlainLaws
pub mod PlainNumbers
pub mod PlainWords
pub mod ReadLaws
pub mod StepLaws
pub mod TokenViews
pub mod WalkLaws
