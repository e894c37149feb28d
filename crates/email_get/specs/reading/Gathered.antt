-- What blobs come to, as it is gathered.
use Rattle.std.specs.Prelude.{◌≡◌, ℕ, List, map, Result, Ok, Err}
use Rattle.serde_json.specs.Data.{Data, Members, no_members, string}
use Rattle.email_bodies.specs.Asking.{BodyAsk}
use Rattle.email_properties.specs.Wanted.{EmailAsked}
use Rattle.jmap_arguments.specs.declared.method_error.MethodError.{MethodError}
use Rattle.mail_maps.specs.Rows.{Rows}
use Rattle.email_get.specs.EmailParse.{ShownBlob, ShowsBlob, parsed_members, missing_ids}
use Rattle.email_get.specs.Showing.{ShowsAll}

pub record GatheredBlobs : Type 0 where
  pub parsed : Members
  pub missing : List Data

-- it is that of blobs that are shown
pub record GathersBlobs (shown : List ShownBlob) (g : GatheredBlobs) : Type 0 where
  pub parsed : g.parsed ≡ parsed_members shown no_members
  pub missing : g.missing ≡ map string (missing_ids shown)

-- what is gathered of the blobs with these ids
abbrev pub GathersThese : Rows → List (List ℕ) → EmailAsked → List (List ℕ) → List BodyAsk → Result GatheredBlobs MethodError → Type 0
GathersThese emails uploads wanted ids asks (Ok g) =
    (shown : List ShownBlob) × ShowsAll (ShowsBlob emails uploads wanted) ids asks (Ok shown) × GathersBlobs shown g
GathersThese emails uploads wanted ids asks (Err e) = ShowsAll (ShowsBlob emails uploads wanted) ids asks (Err e)
