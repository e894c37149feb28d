-- Readers: what a function on octets owes where it reads a language.
use Rattle.std.proofs.Common.{◌≡◌, ℕ, suc, Bool, false, List, [], ◌∷◌, ◌++◌, length, cond, refl, sym, ap, ◌∙◌, append_assoc}
use Rattle.std.specs.Prelude.{◌⊎◌, ◌==◌, Result, Ok, Err, if◌then◌else◌}
use Rattle.std.proofs.Common.{inl, inr}
use Rattle.std.proofs.lemmas.List.{map-append, append-nil}
use Rattle.imap_types.specs.Texts.{plain_of, plain_octets}
use Rattle.command_parts.specs.Fields.{AreOctets}
use Rattle.command_parts.specs.declared.no_command.NoCommand.{NoCommand}
use Rattle.command_parts.specs.declared.no_command.NoCommand.TheVariants.{NeedMore, WantsLiteral, Bad}
use Rattle.command_parts.specs.reading.Steps.{◌>>=◌}

-- the last octet is an LF outside literals: before a text's end it is that of a literal's head
abbrev pub ends_with_line : List ℕ → Bool
ends_with_line [] = false
ends_with_line (c ∷ []) = c == 10
ends_with_line (c ∷ d ∷ t) = ends_with_line (d ∷ t)

-- why octets that begin a text are no whole one, by the text so far; first where there is none
abbrev pub stop_of : NoCommand → List ℕ → NoCommand
stop_of first [] = first
stop_of first (c ∷ t) = if ends_with_line (c ∷ t) then WantsLiteral else NeedMore

-- the octets begin a text and are none
pub record IsOpen {T : Type 0} (L : T → List ℕ → Type 0) (first : NoCommand) (b : List ℕ) (e : NoCommand) : Type 0 where
  pub value : T
  pub text : List ℕ
  pub more : List ℕ
  pub reads : L value (text ++ more)
  pub proper : more ≡ [] → ⊥
  pub octets : plain_octets text ≡ b
  pub stop : e ≡ stop_of first text

-- the octet before the last `left - 1` ones is the first with which no text goes on, whatever follows it
pub record IsWrong {T : Type 0} (L : T → List ℕ → Type 0) (R : List ℕ → Result (T × List ℕ) NoCommand) (b : List ℕ) (left : ℕ) : Type 0 where
  pub value : T
  pub text : List ℕ
  pub more : List ℕ
  pub octet : ℕ
  pub rest : List ℕ
  pub reads : L value (text ++ more)
  pub proper : more ≡ [] → ⊥
  pub whole : b ≡ plain_octets text ++ octet ∷ rest
  pub left_is : left ≡ suc (length rest)
  pub stays : (r : List ℕ) → R (plain_octets text ++ octet ∷ r) ≡ Err (Bad (suc (length r)))

abbrev pub Stopped : {T : Type 0} → (T → List ℕ → Type 0) → (List ℕ → Result (T × List ℕ) NoCommand) → NoCommand → List ℕ → NoCommand → Type 0
Stopped L R first b NeedMore = IsOpen L first b NeedMore
Stopped L R first b WantsLiteral = IsOpen L first b WantsLiteral
Stopped L R first b (Bad left) = IsWrong L R b left

-- R reads the language L: texts whatever follows them, fronts of texts as such, and nothing else
pub record IsReader {T : Type 0} (first : NoCommand) (L : T → List ℕ → Type 0) (R : List ℕ → Result (T × List ℕ) NoCommand) : Type 0 where
  pub whole : (v : T) (t rest : List ℕ) → L v t → R (plain_octets t ++ rest) ≡ Ok (v, rest)
  pub short : (v : T) (t more : List ℕ) → L v (t ++ more) → (more ≡ [] → ⊥) → R (plain_octets t) ≡ Err (stop_of first t)
  pub found : (b : List ℕ) (v : T) (rest : List ℕ) → AreOctets b → R b ≡ Ok (v, rest) → (t : List ℕ) × L v t × (b ≡ plain_octets t ++ rest)
  pub stopped : (b : List ℕ) (e : NoCommand) → AreOctets b → R b ≡ Err e → Stopped L R first b e
  pub some : (v : T) × (t : List ℕ) × L v t

-- ---- lists

pub some_cons : (c : ℕ) (t : List ℕ) → c ∷ t ≡ [] → ⊥
some_cons c t e = cc

-- a list with something at its front or its end isn't empty
pub more_after : (x y : List ℕ) → (x ≡ [] → ⊥) → x ++ y ≡ [] → ⊥
more_after [] y h e = h refl
more_after (c ∷ x) y h e = some_cons c (x ++ y) e

pub more_before : (x y : List ℕ) → (y ≡ [] → ⊥) → x ++ y ≡ [] → ⊥
more_before [] y h e = h e
more_before (c ∷ x) y h e = some_cons c (x ++ y) e

pub plain_cut : (x y rest : List ℕ) → plain_octets (x ++ y) ++ rest ≡ plain_octets x ++ (plain_octets y ++ rest)
plain_cut x y rest = ap (λ (u : List ℕ). u ++ rest) (map-append plain_of x y) ∙ append_assoc (plain_octets x) (plain_octets y) rest

-- of two ways to cut a list in two, one cuts earlier or both at one place
pub seam : (a b c d : List ℕ) → a ++ b ≡ c ++ d → ((e : ℕ) × (x : List ℕ) × (c ≡ a ++ e ∷ x) × (b ≡ e ∷ x ++ d)) ⊎ ((y : List ℕ) × (a ≡ c ++ y) × (d ≡ y ++ b))
seam [] b [] d e = inr ([], refl, sym e)
seam [] b (f ∷ c) d e = inl (f, c, refl, e)
seam (f ∷ a) b [] d e = inr (f ∷ a, refl, sym e)
seam (f ∷ a) b (g ∷ c) d e =
    let first : f ≡ g = cc in
    let rest : a ++ b ≡ c ++ d = cc in
    elim (seam a b c d rest) [
      | inl h ↦ inl (h.0, h.1, ap (λ (n : ℕ). n ∷ c) (sym first) ∙ ap (λ (u : List ℕ). f ∷ u) h.2, h.3)
      | inr h ↦ inr (h.0, ap (λ (n : ℕ). n ∷ a) first ∙ ap (λ (u : List ℕ). g ∷ u) h.1, h.2)
    ]

-- ---- ends

-- only the last octets count
pub ends_append : (x : List ℕ) (d : ℕ) (y : List ℕ) → ends_with_line (x ++ d ∷ y) ≡ ends_with_line (d ∷ y)
ends_append [] d y = refl
ends_append (c ∷ []) d y = refl
ends_append (c ∷ e ∷ x) d y = ends_append (e ∷ x) d y

-- what follows a front stops as the whole does
pub stops_join : (first second : NoCommand) (x y : List ℕ) → stop_of first x ≡ second → stop_of second y ≡ stop_of first (x ++ y)
stops_join first second x [] e = sym e ∙ ap (stop_of first) (sym (append-nil x))
stops_join first second [] (d ∷ y) e = refl
stops_join first second (c ∷ x) (d ∷ y) e = ap (λ (b : Bool). cond b WantsLiteral NeedMore) (sym (ends_append (c ∷ x) d y))

-- ---- results

pub bind_ok : {A B : Type 0} (r : Result A NoCommand) (f : A → Result B NoCommand) (y : B) → (r >>= f) ≡ Ok y → (x : A) × (r ≡ Ok x) × (f x ≡ Ok y)
bind_ok (Ok x) f y e = (x, refl, e)
bind_ok (Err s) f y e = absurd cc

pub bind_err : {A B : Type 0} (r : Result A NoCommand) (f : A → Result B NoCommand) (s : NoCommand) → (r >>= f) ≡ Err s
    → (r ≡ Err s) ⊎ ((x : A) × (r ≡ Ok x) × (f x ≡ Err s))
bind_err {A} {B} (Ok x) f s e = inr (x, refl, e)
bind_err {A} {B} (Err r) f s e = let same : r ≡ s = cc in inl (ap (λ (q : NoCommand). Err q) same)
