mod EmailLemmas
mod ThreadLemmas
pub mod FolderLemmas
mod MarkLemmas
mod NumberLemmas
mod NoTouches
mod TouchedThreads
mod KeptFolders
mod KeptMailboxes
mod RecountLemmas
mod CountLemmas
mod SoundLemmas
mod FollowLemmas
mod StayLemmas
mod ChangeLemmas
mod ValidityLemmas
mod ToldRows
mod KeyLemmas
