mod PlainSteps
mod PlainJobs
mod HeldJobs
mod SentFlags
mod SentSteps
mod SentJobs
