pub mod FoldedSets
pub mod PartLaws
pub mod SortedSets
pub mod StageTexts
