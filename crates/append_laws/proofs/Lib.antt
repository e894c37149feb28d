mod Sent
mod Boxes
mod Made
mod Jobs
mod Created
mod Once
mod Reading
mod Lives
