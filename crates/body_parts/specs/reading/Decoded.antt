-- Texts of parts before their line ends are looked at.
use Rattle.std.specs.Prelude.{◌≡◌, ℕ, Bool, ◌||◌, List}
use Rattle.header_words.specs.Charsets.{text_in, has_problem_in}
use Rattle.mime_tree.specs.declared.part.Part.{Part}
use Rattle.mime_tree.specs.Bodies.{HasOctets}
use Rattle.body_parts.specs.Texts.{charset_in}

-- The octets b of the part spell this text, with a problem or none. The ends of its lines are as they stand.
pub record HasDecoded (p : Part) (b text : List ℕ) (problem : Bool) : Type 0 where
  pub octets : List ℕ
  pub misspelled : Bool
  pub has_octets : HasOctets p b octets misspelled
  pub text_is : text ≡ text_in (charset_in p) octets
  pub problem_is : problem ≡ (misspelled || has_problem_in (charset_in p) octets)
