pub mod FileSteps
pub mod Accepted
pub mod OtherFiles
