-- When octets are read.
use Rattle.std.specs.Prelude.{◌≡◌, ◌++◌, ℕ, List, ◌∷◌}
use Rattle.std.specs.List.{flat_map}
use Rattle.gate_world.specs.declared.event.Event.{Event}
use Rattle.gate_world.specs.declared.event.Event.TheVariants.{StoreGave}
use Rattle.gate_world.specs.Octets.{store_gave_in, store_took_in}
use Rattle.imap_grammar.specs.Scan.{ScanOf}
use Rattle.imap_grammar.specs.declared.answer.Scan.TheVariants as scan

-- no whole response stands at the front of the octets yet
abbrev pub NeedsMore : List ℕ → Type 0
NeedsMore octets = ScanOf octets scan.NeedMore

-- Each time that the store gave octets in these events, those were awaited by what it had given and taken in them until then.
pub record ReadsWhile (IsAwaited : List ℕ → List ℕ → Type 0) (events : List Event) : Type 0 where
  pub at_each : (so_far later : List Event) (octet : ℕ) (octets : List ℕ) → events ≡ so_far ++ StoreGave (octet ∷ octets) ∷ later
      → IsAwaited (flat_map store_gave_in so_far) (flat_map store_took_in so_far)
