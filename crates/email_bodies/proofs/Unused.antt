-- A body that isn't kept can't be used.
use Rattle.std.proofs.Common.{◌≡◌, ℕ, None, nat_eq, ap, is_some}
use Rattle.lru.specs.LruCache.{lru_cache}
use Rattle.lru.proofs.Pairs.{promoted_absent}
use Rattle.email_bodies.specs.Keeping.{Bodies, body_at, after_use}
use Rattle.email_bodies.specs.declared.cache.TheConstants.{MAX_BODIES}

-- asking for one that isn't kept changes nothing
pub unused_stay : (bodies : Bodies) (email : ℕ) → body_at bodies email ≡ None → after_use email bodies ≡ bodies
unused_stay bodies email is = (promoted_absent nat_eq (lru_cache bodies MAX_BODIES) email (ap is_some is)).1
