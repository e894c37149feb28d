-- Calls has what calls come to, one after another over one mail; Calling the calls of a request, each over the mail of its moment; Sources what comes of
-- calls that a source answers, of which RequestMail is one; Places is for the law that this is one list.
pub mod MethodNames
pub mod Mailings
pub mod Methods
pub mod Calls
pub mod ItemChecks
pub mod Calling
pub mod OneMail
pub mod ToldBodies
pub mod Sources
pub mod RequestMail
pub mod Places
pub mod reading
pub mod SortOptions
