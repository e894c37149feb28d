-- The tokens of what is written, piece by piece (RFC 5322 section 3.2).
use Rattle.std.proofs.Common.{◌≡◌, ℕ, Bool, true, false, List, [], ◌∷◌, ◌++◌, refl}
use Rattle.text_words.specs.Cuts.{IsRun, Stops}
use Rattle.text_words.specs.Octets.{is_white}
use Rattle.header_tokens.specs.declared.token.Alphabet.{Alphabet}
use Rattle.header_tokens.specs.declared.token.Kind.TheVariants as kind
use Rattle.header_tokens.specs.Tokens.{is_mark, is_letter, Spelled, AreTokens}
use Rattle.message_lines.specs.Folding.{gap}

abbrev pub gap_token : Bool → Spelled
gap_token short = record { kind = kind.Space; text = gap short }

gap_white : (short : Bool) → IsRun is_white (gap short)
gap_white true = ((refl, tt), λ n. absurd cc)
gap_white false = ((refl, (refl, (refl, tt))), λ n. absurd cc)

-- a gap before a text that goes on with no white space
pub gap_before : (a : Alphabet) (short : Bool) (us : List Spelled) (u : List ℕ) → Stops is_white u → AreTokens a us u → AreTokens a (gap_token short ∷ us) (gap short ++ u)
gap_before a short us u e f = record { unit = gap short; rest = u; whole = refl; is = record { text_is = refl; spelled = gap_white short; ends = e }; more = f }

abbrev pub mark_token : ℕ → Spelled
mark_token c = record { kind = kind.Mark; text = c ∷ [] }

pub mark_before : (a : Alphabet) (c : ℕ) (us : List Spelled) (u : List ℕ) → is_mark a c ≡ true → AreTokens a us u → AreTokens a (mark_token c ∷ us) (c ∷ u)
mark_before a c us u e f = record { unit = c ∷ []; rest = u; whole = refl; is = record { text_is = refl; spelled = (c, refl, e); ends = tt }; more = f }

abbrev pub atom_token : List ℕ → Spelled
atom_token w = record { kind = kind.Atom; text = w }

pub atom_before : (a : Alphabet) (w : List ℕ) (us : List Spelled) (u : List ℕ) → IsRun (is_letter a) w → Stops (is_letter a) u → AreTokens a us u
    → AreTokens a (atom_token w ∷ us) (w ++ u)
atom_before a w us u r e f = record { unit = w; rest = u; whole = refl; is = record { text_is = refl; spelled = r; ends = e }; more = f }
