-- What a client that waits has sent of a head.
use Rattle.std.specs.Prelude.{◌≡◌, ℕ, List, [], ◌∷◌, length, drop, Option, None, Some, nat_le, ◌||◌, if◌then◌else◌}
use Rattle.client_front.specs.FirstOctet.{can_begin}
use Rattle.client_front.specs.HeadEnd.{is_body, stage_after}
use Rattle.client_front.specs.declared.progress.Stage.{Stage}
use Rattle.client_front.specs.declared.progress.Stage.TheVariants.{Blank}
use Rattle.client_front.specs.declared.scan.Scan.{Scan}
use Rattle.client_front.specs.declared.scan.Coming.{Coming}
use Rattle.client_front.specs.declared.scan.Coming.TheVariants.{Nothing, Part, Whole, Never}
use Rattle.client_front.specs.declared.scan.TheConstants.{MAX_HEAD_OCTETS}

-- where the next octet stands after these
abbrev pub stage_from : Stage → List ℕ → Stage
stage_from stage [] = stage
stage_from stage (octet ∷ octets) = stage_from (stage_after stage octet) octets

abbrev pub unscanned : Scan
unscanned = record { seen = 0; stage = Blank }

-- these have come so far: those behind the ones that were looked through before are looked through
abbrev pub scanned : List ℕ → Scan → Scan
scanned octets scan = record { seen = length octets; stage = stage_from scan.stage (drop scan.seen octets) }

-- the head is whole, or has as many octets as a head has at most
abbrev pub coming_at : Scan → Coming
coming_at scan = if is_body scan.stage || nat_le MAX_HEAD_OCTETS scan.seen then Whole else Part scan

-- what a client has sent, by the octets that it shows
abbrev pub coming : Scan → Option (List ℕ) → Coming
coming scan None = Never
coming scan (Some []) = Nothing
coming scan (Some (octet ∷ octets)) = if can_begin octet then coming_at (scanned (octet ∷ octets) scan) else Never

-- a look at the client, for as many octets as a head has at most, shows this
abbrev pub IsComing : {S : Type 0} → (S → ℕ → Option (List ℕ) → Type 0) → Scan → S → Coming → Type 0
IsComing shows scan stream it = (shown : Option (List ℕ)) × shows stream MAX_HEAD_OCTETS shown × (it ≡ coming scan shown)
