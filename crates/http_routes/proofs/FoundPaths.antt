-- The walk over the table finds exactly the paths that there are, and the parts are those of each.
use Rattle.std.proofs.Common.{◌≡◌, inl, inr, ℕ, List, [], ◌∷◌, ◌++◌, Option, Some, None, option_map, codes, refl, sym, ap, ◌∙◌, subst}
use Rattle.matchit.specs.Rows.{param_token}
use Rattle.matchit.specs.Router.{RouteOf}
use Rattle.matchit.specs.Seek.{first}
use Rattle.http_routes.specs.declared.router.Kind.{Kind}
use Rattle.http_routes.specs.declared.router.Kind.TheVariants.{Session, Api, Upload, Download}
use Rattle.http_routes.specs.Paths.{Resource, SessionResource, ApiResource, UploadResource, DownloadResource, HasNoSlash, IsPathPart, IsPath}
use Rattle.http_routes.specs.Routing.{FindsResource}
use Rattle.http_routes.specs.reading.Finding.{resource_of, resource_at}
use Rattle.http_routes.specs.reading.Parts.{before_slash, after_slash, account_part, blob_part, name_part}
use Rattle.http_routes.specs.reading.Table.{session_row, api_row, upload_row, download_row, nameless_row, paths, kind_at}
use Rattle.http_routes.proofs.PathParts.{before_part, before_none, after_part}
use Rattle.http_routes.proofs.Patterns.{MatchesPattern, HasMatch, literal_start, last_part, part_and_slash, seek_match}
use Rattle.http_routes.proofs.Walks.{along, seek_along, seek_ends, seek_last, seek_name, seek_part}

-- ---- what is found is a path

session_path : (path : List ℕ) → (rest : List ℕ) × (path ≡ codes "/.well-known/jmap" ++ rest) × MatchesPattern [] rest → (resource : Resource) × IsPath resource path
session_path path (rest, is, ends) = (SessionResource, is ∙ ap (λ (l : List ℕ). codes "/.well-known/jmap" ++ l) ends)

api_path : (path : List ℕ) → (rest : List ℕ) × (path ≡ codes "/jmap/api" ++ rest) × MatchesPattern [] rest → (resource : Resource) × IsPath resource path
api_path path (rest, is, ends) = (ApiResource, is ∙ ap (λ (l : List ℕ). codes "/jmap/api" ++ l) ends)

upload_path : (path : List ℕ) → (rest : List ℕ) × (path ≡ codes "/jmap/upload/" ++ rest) × MatchesPattern (param_token ∷ []) rest
    → (resource : Resource) × IsPath resource path
upload_path path (rest, is, matches) = (UploadResource rest, (last_part rest matches, is))

download_path : (path : List ℕ)
    → (rest : List ℕ) × (path ≡ codes "/jmap/download/" ++ rest) × MatchesPattern (param_token ∷ 47 ∷ param_token ∷ 47 ∷ param_token ∷ []) rest
    → (resource : Resource) × IsPath resource path
download_path path (rest, is, matches) =
    let a = part_and_slash (param_token ∷ 47 ∷ param_token ∷ []) rest matches in
    let b = part_and_slash (param_token ∷ []) a.1 a.4 in
    let parts : rest ≡ a.0 ++ 47 ∷ (b.0 ++ 47 ∷ b.1) = a.3 ∙ ap (λ (l : List ℕ). a.0 ++ 47 ∷ l) b.3 in
    (DownloadResource a.0 b.0 b.1, (a.2, b.2, (last_part b.1 b.4).1, is ∙ ap (λ (l : List ℕ). codes "/jmap/download/" ++ l) parts))

nameless_path : (path : List ℕ)
    → (rest : List ℕ) × (path ≡ codes "/jmap/download/" ++ rest) × MatchesPattern (param_token ∷ 47 ∷ param_token ∷ 47 ∷ []) rest
    → (resource : Resource) × IsPath resource path
nameless_path path (rest, is, matches) =
    let a = part_and_slash (param_token ∷ 47 ∷ []) rest matches in
    let b = part_and_slash [] a.1 a.4 in
    let parts : rest ≡ a.0 ++ 47 ∷ (b.0 ++ 47 ∷ b.1) = a.3 ∙ ap (λ (l : List ℕ). a.0 ++ 47 ∷ l) b.3 in
    (DownloadResource a.0 b.0 b.1, (a.2, b.2, subst HasNoSlash (sym b.4) tt, is ∙ ap (λ (l : List ℕ). codes "/jmap/download/" ++ l) parts))

-- a path that matches a row is a path that there is
row_path : (path : List ℕ) (found : RouteOf Kind) → HasMatch path found paths → (resource : Resource) × IsPath resource path
row_path path found (inl (is, matches)) = session_path path (literal_start (codes "/.well-known/jmap") [] path refl matches)
row_path path found (inr (inl (is, matches))) = api_path path (literal_start (codes "/jmap/api") [] path refl matches)
row_path path found (inr (inr (inl (is, matches)))) =
    download_path path (literal_start (codes "/jmap/download/") (param_token ∷ 47 ∷ param_token ∷ 47 ∷ param_token ∷ []) path refl matches)
row_path path found (inr (inr (inr (inl (is, matches))))) =
    nameless_path path (literal_start (codes "/jmap/download/") (param_token ∷ 47 ∷ param_token ∷ 47 ∷ []) path refl matches)
row_path path found (inr (inr (inr (inr (inl (is, matches)))))) = upload_path path (literal_start (codes "/jmap/upload/") (param_token ∷ []) path refl matches)
row_path path found (inr (inr (inr (inr (inr none))))) = absurd none

found_path : (path : List ℕ) (found : RouteOf Kind) → first paths path ≡ Some found → (resource : Resource) × IsPath resource path
found_path path found is = row_path path found (seek_match 0 paths path found is)

-- ---- each path is found, as what it is of

kind_of_row : (path : List ℕ) (row : RouteOf Kind) → first paths path ≡ Some row → kind_at path ≡ Some row.value
kind_of_row path row is = ap (option_map (λ (r : RouteOf Kind). r.value)) is

session_kind : kind_at (codes "/.well-known/jmap") ≡ Some Session
session_kind =
    kind_of_row (codes "/.well-known/jmap") session_row.1
    (seek_along (codes "/.well-known/jmap") [] paths session_row.1 (seek_ends (along (codes "/.well-known/jmap") paths) session_row.1 refl))

api_kind : kind_at (codes "/jmap/api") ≡ Some Api
api_kind =
    kind_of_row (codes "/jmap/api") api_row.1
    (seek_along (codes "/jmap/api") [] paths api_row.1 (seek_ends (along (codes "/jmap/api") paths) api_row.1 refl))

upload_kind : (account : List ℕ) → IsPathPart account → kind_at (codes "/jmap/upload/" ++ account) ≡ Some Upload
upload_kind account is =
    kind_of_row (codes "/jmap/upload/" ++ account) upload_row.1
    (seek_along (codes "/jmap/upload/") account paths upload_row.1 (seek_last account upload_row.1 is))

abbrev IsOfDownload : RouteOf Kind → Type 0
IsOfDownload row = row.value ≡ Download

download_kind : (account blob name : List ℕ) → IsPathPart account → IsPathPart blob → HasNoSlash name
    → kind_at (codes "/jmap/download/" ++ (account ++ 47 ∷ (blob ++ 47 ∷ name))) ≡ Some Download
download_kind account blob name is_account is_blob is_name =
    let one : RouteOf Kind = download_row.1 in
    let two : RouteOf Kind = nameless_row.1 in
    let last = seek_name IsOfDownload name one two is_name refl refl in
    let second = seek_part IsOfDownload blob name (param_token ∷ []) [] one two is_blob refl refl last in
    let parts = seek_part IsOfDownload account (blob ++ 47 ∷ name) (param_token ∷ 47 ∷ param_token ∷ []) (param_token ∷ 47 ∷ []) one two is_account refl refl second in
    kind_of_row (codes "/jmap/download/" ++ (account ++ 47 ∷ (blob ++ 47 ∷ name))) parts.0
    (seek_along (codes "/jmap/download/") (account ++ 47 ∷ (blob ++ 47 ∷ name)) paths parts.0 parts.1)
    ∙ ap Some parts.2

upload_at : (account : List ℕ) → IsPathPart account → resource_at (codes "/jmap/upload/" ++ account) ≡ Some (UploadResource account)
upload_at account is =
    ap (λ (k : Option Kind). resource_of k (codes "/jmap/upload/" ++ account)) (upload_kind account is)
    ∙ ap (λ (a : List ℕ). Some (UploadResource a)) (before_none account is.1)

download_at : (account blob name : List ℕ) → IsPathPart account → IsPathPart blob → HasNoSlash name
    → resource_at (codes "/jmap/download/" ++ (account ++ 47 ∷ (blob ++ 47 ∷ name))) ≡ Some (DownloadResource account blob name)
download_at account blob name is_account is_blob is_name =
    let path : List ℕ = codes "/jmap/download/" ++ (account ++ 47 ∷ (blob ++ 47 ∷ name)) in
    let behind : after_slash (account ++ 47 ∷ (blob ++ 47 ∷ name)) ≡ blob ++ 47 ∷ name = after_part account (blob ++ 47 ∷ name) is_account.1 in
    let first_part : account_part path ≡ account = before_part account (blob ++ 47 ∷ name) is_account.1 in
    let second_part : blob_part path ≡ blob = ap (λ (l : List ℕ). before_slash l) behind ∙ before_part blob name is_blob.1 in
    let third_part : name_part path ≡ name = ap (λ (l : List ℕ). after_slash l) behind ∙ after_part blob name is_blob.1 in
    let parts : Some (DownloadResource (account_part path) (blob_part path) (name_part path)) ≡ Some (DownloadResource account blob name) =
    λ i. Some (DownloadResource (first_part i) (second_part i) (third_part i)) in
    ap (λ (k : Option Kind). resource_of k path) (download_kind account blob name is_account is_blob is_name) ∙ parts

-- a path is found as what it is of
pub path_found : (resource : Resource) (path : List ℕ) → IsPath resource path → resource_at path ≡ Some resource
path_found SessionResource path is =
    ap resource_at is ∙ ap (λ (k : Option Kind). resource_of k (codes "/.well-known/jmap")) session_kind
path_found ApiResource path is = ap resource_at is ∙ ap (λ (k : Option Kind). resource_of k (codes "/jmap/api")) api_kind
path_found (UploadResource account) path is = ap resource_at is.1 ∙ upload_at account is.0
path_found (DownloadResource account blob name) path is = ap resource_at is.3 ∙ download_at account blob name is.0 is.1 is.2

-- ---- both together

-- one value, of two that are the same
some_is : {A : Type 0} (one other : A) → Some one ≡ Some other → one ≡ other
some_is one other is = cc

nothing_found : {A : Type 0} {B : Type 0} (x : Option A) (one : A) → x ≡ None → x ≡ Some one → B
nothing_found x one none is = absurd cc

-- a path is of one resource
pub one_resource : (path : List ℕ) (one other : Resource) → IsPath one path → IsPath other path → one ≡ other
one_resource path one other is so = some_is one other (sym (path_found one path is) ∙ path_found other path so)

-- what is found is what the path is of
is_found : (path : List ℕ) (resource : Resource) → resource_at path ≡ Some resource → IsPath resource path
is_found path resource is = by (first paths path) refl
  where
    by : (row : Option (RouteOf Kind)) → first paths path ≡ row → IsPath resource path
    by None e =
        nothing_found (resource_at path) resource
        (ap (λ (row : Option (RouteOf Kind)). resource_of (option_map (λ (r : RouteOf Kind). r.value) row) path) e) is
    by (Some row) e =
        let found = found_path path row e in
        subst (λ (r : Resource). IsPath r path) (some_is found.0 resource (sym (path_found found.0 path found.1) ∙ is)) found.1

-- what the code finds is what the path is of, or that it is of nothing
pub finds : (path : List ℕ) → FindsResource path (resource_at path)
finds path = by (resource_at path) refl
  where
    by : (found : Option Resource) → resource_at path ≡ found → FindsResource path found
    by None e = λ resource is. nothing_found (resource_at path) resource e (path_found resource path is)
    by (Some resource) e = is_found path resource e
