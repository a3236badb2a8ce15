pub mod OneKey
pub mod Formed
pub mod OneMeaning
pub mod Circles
pub mod Samples
mod MeetingExamples
mod KeyExamples
mod TypeExamples
mod SearchExamples
mod FaultExamples
mod BodyExamples
mod TypingExamples
pub mod OneDeclared
mod ResolvedExamples
