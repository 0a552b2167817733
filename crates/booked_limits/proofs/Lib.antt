pub mod FineTasks
pub mod FineParts
pub mod FineReplies
pub mod FineSteps
pub mod StepLimits
pub mod FineLogs
pub mod FirstUnits
pub mod BookedLogs
