-- What loops over responses have found so far.
use Rattle.std.specs.Prelude.{List, [], ◌∷◌, if◌then◌else◌}
use Rattle.imap_types.specs.declared.response.Response.{Response}
use Rattle.told_folder.specs.Select.{is_closed}

-- the responses after the last CLOSED; the first argument where there is none
abbrev pub closed : List Response → List Response → List Response
closed after [] = after
closed after (r ∷ rs) = if is_closed r then closed rs rs else closed after rs
