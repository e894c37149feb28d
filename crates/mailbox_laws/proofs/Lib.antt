mod Elements
mod Jobs
mod FitJobs
mod SentSteps
mod SentJobs
