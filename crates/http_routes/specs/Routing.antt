-- Which route a request has: its path first, then the account, then the method.
use Rattle.std.specs.Prelude.{◌≡◌, ℕ, List, Bool, Option, None, Some, bytes_eq, codes, if◌then◌else◌}
use Rattle.percent_encoding.specs.Percent.{percent_decode}
use Rattle.http_routes.specs.Accept.{media_in}
use Rattle.http_routes.specs.Paths.{Resource, SessionResource, ApiResource, UploadResource, DownloadResource, IsPath}
use Rattle.http_routes.specs.declared.route.Route.{Route}
use Rattle.http_routes.specs.declared.route.Route.TheVariants.{Session, Api, Upload, Download, NotFound, MethodNotAllowed}

-- what the path is of, or that it is of nothing
abbrev pub FindsResource : List ℕ → Option Resource → Type 0
FindsResource path None = (resource : Resource) → IsPath resource path → ⊥
FindsResource path (Some resource) = IsPath resource path

abbrev pub of_method : List ℕ → List ℕ → Route → Route
of_method method wanted route = if bytes_eq method wanted then route else MethodNotAllowed

-- the part, with its escapes undone, is the account that there is
abbrev pub names_account : List ℕ → List ℕ → Bool
names_account account part = bytes_eq (percent_decode part) account

abbrev pub download : List ℕ → List ℕ → List ℕ → Route
download blob name query = Download (percent_decode blob) (percent_decode name) (media_in query)

-- the route to what was found, of this account, by this method, with this query
abbrev pub route_to : Option Resource → List ℕ → List ℕ → List ℕ → Route
route_to None account method query = NotFound
route_to (Some SessionResource) account method query = of_method method (codes "GET") Session
route_to (Some ApiResource) account method query = of_method method (codes "POST") Api
route_to (Some (UploadResource named)) account method query = if names_account account named then of_method method (codes "POST") Upload else NotFound
route_to (Some (DownloadResource named blob name)) account method query =
    if names_account account named then of_method method (codes "GET") (download blob name query) else NotFound

-- The route of a request, where there is this account alone: that to what its path is of.
pub record IsRoute (account method path query : List ℕ) (route : Route) : Type 0 where
  pub found : Option Resource
  pub finds : FindsResource path found
  pub is : route ≡ route_to found account method query
