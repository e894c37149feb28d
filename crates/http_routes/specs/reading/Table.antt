-- The paths that there are, as matchit keeps them.
use Rattle.std.specs.Prelude.{ℕ, List, [], ◌∷◌, ◌++◌, Option, option_map, codes}
use Rattle.matchit.specs.Rows.{RowsOf, param_token}
use Rattle.matchit.specs.Router.{RouteOf}
use Rattle.matchit.specs.Seek.{first}
use Rattle.http_routes.specs.declared.router.Kind.{Kind}
use Rattle.http_routes.specs.declared.router.Kind.TheVariants.{Session, Api, Upload, Download}

-- a pattern: octets, and a token for each part; as it is written, and where the parts' names stand in that
abbrev pub path_row : List ℕ → List ℕ → List (ℕ × ℕ) → Kind → List ℕ × RouteOf Kind
path_row pattern text names kind = (pattern, record { pattern = pattern; text = text; names = names; value = kind })

abbrev pub session_row : List ℕ × RouteOf Kind
session_row = path_row (codes "/.well-known/jmap") (codes "/.well-known/jmap") [] Session

abbrev pub api_row : List ℕ × RouteOf Kind
api_row = path_row (codes "/jmap/api") (codes "/jmap/api") [] Api

abbrev pub upload_row : List ℕ × RouteOf Kind
upload_row = path_row (codes "/jmap/upload/" ++ param_token ∷ []) (codes "/jmap/upload/{account}") ((14, 21) ∷ []) Upload

abbrev pub download_row : List ℕ × RouteOf Kind
download_row =
    path_row (codes "/jmap/download/" ++ (param_token ∷ 47 ∷ param_token ∷ 47 ∷ param_token ∷ []))
    (codes "/jmap/download/{account}/{blob}/{name}") ((16, 23) ∷ (26, 30) ∷ (33, 37) ∷ []) Download

-- the same with an empty name
abbrev pub nameless_row : List ℕ × RouteOf Kind
nameless_row =
    path_row (codes "/jmap/download/" ++ (param_token ∷ 47 ∷ param_token ∷ 47 ∷ [])) (codes "/jmap/download/{account}/{blob}/") ((16, 23) ∷ (26, 30) ∷ []) Download

abbrev pub paths : RowsOf (RouteOf Kind)
paths = session_row ∷ api_row ∷ download_row ∷ nameless_row ∷ upload_row ∷ []

-- of which kind a path is
abbrev pub kind_at : List ℕ → Option Kind
kind_at path = option_map (λ found. found.value) (first paths path)
