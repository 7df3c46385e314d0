pub mod AnswersTold
pub mod LeftQuestions
pub mod Sizes
