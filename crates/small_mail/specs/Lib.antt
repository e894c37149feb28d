-- What the small store does to its mail stands in small_answers. Places is for the steps of the code.
pub mod Places
