-- What a path is of, as the code finds it: its kind, and then its parts.
use Rattle.std.specs.Prelude.{ℕ, List, Option, None, Some}
use Rattle.http_routes.specs.Paths.{Resource, SessionResource, ApiResource, UploadResource, DownloadResource}
use Rattle.http_routes.specs.declared.router.Kind.{Kind}
use Rattle.http_routes.specs.declared.router.Kind.TheVariants.{Session, Api, Upload, Download}
use Rattle.http_routes.specs.reading.Parts.{account_part, blob_part, name_part}
use Rattle.http_routes.specs.reading.Table.{kind_at}

-- what a path of this kind is of
abbrev pub resource_of : Option Kind → List ℕ → Option Resource
resource_of None path = None
resource_of (Some Session) path = Some SessionResource
resource_of (Some Api) path = Some ApiResource
resource_of (Some Upload) path = Some (UploadResource (account_part path))
resource_of (Some Download) path = Some (DownloadResource (account_part path) (blob_part path) (name_part path))

abbrev pub resource_at : List ℕ → Option Resource
resource_at path = resource_of (kind_at path) path
