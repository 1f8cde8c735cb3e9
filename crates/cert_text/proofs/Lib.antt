pub mod Fitting
pub mod Lists
pub mod Fits
pub mod OnLiterals
pub mod Percent
pub mod ReadsBack
pub mod Blank
pub mod Readable
pub mod CanonicalTexts
pub mod Prefixes
pub mod Pushing
mod Samples
