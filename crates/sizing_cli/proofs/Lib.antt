pub mod Splitting
pub mod FirstSeparator
pub mod Answering
pub mod SameSets
pub mod PastTheLimit
pub mod LastSeparator
pub mod SafeInputs
pub mod Certified
pub mod FittedAnswers
mod EffectiveLearned
pub mod AsDeclared
pub mod RefutedAnswers
mod ConformedAnswers
mod LearnedAnswers
pub mod ServedAnswers
mod Runs
mod AskedAnswers
pub mod OtherSizes
pub mod LinesInOrder
mod JoinedTexts
mod Failed
pub mod ReadParts
mod WrittenBefore
pub mod SavedTexts
mod ReplaceableTexts
pub mod RejectionLists
