pub mod Trials
pub mod TextExamples
pub mod Examples
pub mod DottedExamples
pub mod ChainExamples
