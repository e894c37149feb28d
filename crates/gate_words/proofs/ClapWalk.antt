-- Words that settings spell are walked by clap to the rows of these settings.
use Rattle.std.proofs.Common.{◌≡◌, inl, inr, ℕ, List, [], ◌∷◌, ◌++◌, map, Bool, true, false, ◌&&◌, ◌==◌, if◌then◌else◌, Some, None, fold, bytes_eq}
use Rattle.std.proofs.Common.{refl, sym, ap, subst, ◌∙◌, append-nil, append_assoc}
use Rattle.std.specs.List.{list_all}
use Rattle.clap.specs.Lexer.{long_of, short_of}
use Rattle.clap.specs.Simple.{Shape}
use Rattle.clap.specs.Takes.{default_passes, is_valid, level_passes, settle_passes, turn_passes, use_passes, walk_passes}
use Rattle.clap.specs.Walk.{Held, Row, Rule, Text, Walk, arg_by_id, arg_by_long, default_rows, finished, has_row, nothing_held, option as awaits, reacted, reading_by}
use Rattle.clap.specs.Walk.{rows_after, settled, settled_rows, stop_after, used, walk, walk_from, walked, with_default}
use Rattle.gate_words.specs.Options.{name_text, Setting, joined_text, BeginsWithDash, SpellsWord, SpellsAll}
use Rattle.gate_words.specs.reading.Commands.{id_of}
use Rattle.gate_words.specs.declared.option.Name.{Name}
use Rattle.gate_words.specs.declared.option.Name.TheVariants.{Store, User, Base, Listen, Connections}
use Rattle.gate_words.proofs.ClapRows.{AreSingle, filled, id-same, not-before, row, use-fits, used-row}
use Rattle.gate_words.proofs.Names.{test-no-dash}

-- ---- what words look like

abbrev dashes : List ℕ
dashes = 45 ∷ 45 ∷ []

joined-long : (name : Name) (value : List ℕ) → (bytes_eq (name_text name ++ 61 ∷ value) dashes ≡ false)
    × (long_of (name_text name ++ 61 ∷ value) ≡ Some (id_of name, Some value))
joined-long Store value = (refl, refl)
joined-long User value = (refl, refl)
joined-long Base value = (refl, refl)
joined-long Listen value = (refl, refl)
joined-long Connections value = (refl, refl)

name-long : (name : Name) → (bytes_eq (name_text name) dashes ≡ false) × (long_of (name_text name) ≡ Some (id_of name, None))
name-long Store = (refl, refl)
name-long User = (refl, refl)
name-long Base = (refl, refl)
name-long Listen = (refl, refl)
name-long Connections = (refl, refl)

plain-value : (value : List ℕ) → (BeginsWithDash value → ⊥) → (bytes_eq value dashes ≡ false) × (long_of value ≡ None) × (short_of value ≡ None)
plain-value [] none = (refl, refl, refl)
plain-value (octet ∷ value) none =
    let no : (octet == 45) ≡ false = test-no-dash (octet ∷ value) none in
    (rw no refl, rw no refl, rw no refl)

-- ---- a command with options

-- no rule has a default
abbrev pub StartEmpty : List Rule → Type 0
StartEmpty [] = Unit {0}
StartEmpty (a ∷ rules) = (a.defaults ≡ []) × StartEmpty rules

-- the command has these options
pub record HasOptions (shape : Shape) (Has : Name → Type 0) : Type 0 where
  pub by_long : (name : Name) → Has name → arg_by_long shape.rules (id_of name) ≡ Some (filled name)
  pub by_id : (name : Name) → Has name → arg_by_id shape.rules (id_of name) ≡ Some (filled name)
  pub empty : StartEmpty shape.rules
  pub defaults : list_all default_passes shape.rules ≡ true

abbrev pub AllHave : (Name → Type 0) → List Setting → Type 0
AllHave Has [] = Unit {0}
AllHave Has (setting ∷ settings) = Has setting.name × AllHave Has settings

-- what is held once these settings were read
record Holds (shape : Shape) (front : List Setting) (held : Held) : Type 0 where
  rows : settled_rows shape.rules held.pending held.rows ≡ map row front
  settles : settle_passes shape.rules shape.args_override_self held ≡ true

-- the words lead from what is held before them to what is held after them, and pass
record Leads (shape : Shape) (here : List Text) (old new : Held) : Type 0 where
  walks : (rest : List Text) → fold (walked shape.rules []) (walk_from old) (here ++ rest) ≡ fold (walked shape.rules []) (walk_from new) rest
  passes : (rest : List Text) → walk_passes shape [] (walk_from old) (here ++ rest) ≡ walk_passes shape [] (walk_from new) rest

-- one word passes, and leads to another place
one-word : (shape : Shape) (old new : Walk) (word : Text) → walked shape.rules [] old word ≡ new → turn_passes shape [] old word ≡ true
    → (rest : List Text) → walk_passes shape [] old (word ∷ rest) ≡ walk_passes shape [] new rest
unfolding walk_passes
one-word shape old new word is passes rest =
    ap (λ (b : Bool). b && walk_passes shape [] (walked shape.rules [] old word) rest) passes ∙ ap (λ (w : Walk). walk_passes shape [] w rest) is

no-word : (shape : Shape) (w : Walk) → walk_passes shape [] w [] ≡ true
unfolding walk_passes
no-word shape w = refl

both : (a b : Bool) → a ≡ true → b ≡ true → (a && b) ≡ true
both true b p q = q
both false b p q = p

with-default : (rows : List Row) (a : Rule) → a.defaults ≡ [] → with_default rows a ≡ rows
with-default rows a none =
    elim (has_row a.id rows) as (λ t. (if◌then◌else◌ {A = List Row} t rows (default_rows a.id (reading_by a) a.defaults rows)) ≡ rows) [
      | true ↦ refl
      | false ↦ ap (λ (d : List Text). default_rows a.id (reading_by a) d rows) none
    ]

-- without defaults the rows stay
stays : (rules : List Rule) (rows : List Row) → StartEmpty rules → fold with_default rows rules ≡ rows
stays [] rows none = refl
stays (a ∷ rules) rows none = ap (λ (r : List Row). fold with_default r rules) (with-default rows a none.0) ∙ stays rules rows none.1

module _ (shape : Shape) (Has : Name → Type 0) (options : HasOptions shape Has) where
  -- what is held once an option waits for its value, and once it has that
  abbrev begun : Name → List Text → Held → Held
  begun name values held = record (settled shape.rules held) { pending = Some (id_of name, values) }

  abbrev awaiting : Name → Held → Walk
  awaiting name held = record (walk_from (begun name [] held)) { waiting = awaits (id_of name) }

  abbrev taken : Setting → Held → Held
  taken setting held = reacted shape.rules (filled setting.name) (setting.value ∷ []) held

  joined-walked : (setting : Setting) (held : Held) → Has setting.name
      → walked shape.rules [] (walk_from held) (joined_text setting) ≡ walk_from (taken setting held)
  unfolding walked
  joined-walked setting held has =
      let word = joined-long setting.name setting.value in
      rw (word.0, word.1, options.by_long setting.name has) refl

  fits : (setting : Setting) (front : List Setting) (held : Held) → Holds shape front held → has_row (id_of setting.name) (map row front) ≡ false
      → use_passes shape.args_override_self (filled setting.name) (setting.value ∷ []) (settled_rows shape.rules held.pending held.rows) ≡ true
  fits setting front held holds none =
      use-fits shape.args_override_self setting (settled_rows shape.rules held.pending held.rows) (ap (has_row (id_of setting.name)) holds.rows ∙ none)

  joined-passes : (setting : Setting) (front : List Setting) (held : Held) → Has setting.name → Holds shape front held
      → has_row (id_of setting.name) (map row front) ≡ false → turn_passes shape [] (walk_from held) (joined_text setting) ≡ true
  joined-passes setting front held has holds none =
      let word = joined-long setting.name setting.value in
      rw (word.0, word.1, options.by_long setting.name has, holds.settles, fits setting front held holds none) refl

  name-walked : (name : Name) (held : Held) → Has name → walked shape.rules [] (walk_from held) (name_text name) ≡ awaiting name held
  unfolding walked
  name-walked name held has =
      let word = name-long name in
      rw (word.0, word.1, options.by_long name has) refl

  name-passes : (name : Name) (front : List Setting) (held : Held) → Has name → Holds shape front held
      → turn_passes shape [] (walk_from held) (name_text name) ≡ true
  name-passes name front held has holds =
      let word = name-long name in
      rw (word.0, word.1, options.by_long name has, holds.settles) refl

  value-walked : (name : Name) (value : List ℕ) (held : Held) → Has name → (BeginsWithDash value → ⊥)
      → walked shape.rules [] (awaiting name held) value ≡ walk_from (begun name (value ∷ []) held)
  unfolding walked
  value-walked name value held has none =
      let plain = plain-value value none in
      rw (plain.0, plain.1, plain.2, options.by_id name has, id-same name) refl

  value-passes : (name : Name) (value : List ℕ) (held : Held) → (BeginsWithDash value → ⊥) → turn_passes shape [] (awaiting name held) value ≡ true
  value-passes name value held none =
      let plain = plain-value value none in
      rw (plain.0, plain.1, plain.2) refl

  -- a setting in one word
  joined-step : (setting : Setting) (front : List Setting) (held : Held) → Has setting.name → Holds shape front held
      → has_row (id_of setting.name) (map row front) ≡ false
      → Holds shape (front ++ setting ∷ []) (taken setting held) × Leads shape (joined_text setting ∷ []) held (taken setting held)
  joined-step setting front held has holds none =
      let walked-to = joined-walked setting held has in (
        record { rows = ap (used (filled setting.name) (setting.value ∷ [])) holds.rows ∙ used-row setting front none; settles = refl },
        record {
          walks = λ rest. ap (λ (w : Walk). fold (walked shape.rules []) w rest) walked-to;
          passes = one-word shape (walk_from held) (walk_from (taken setting held)) (joined_text setting) walked-to
              (joined-passes setting front held has holds none);
        },
      )

  -- a setting in two words
  apart-step : (setting : Setting) (front : List Setting) (held : Held) → Has setting.name → Holds shape front held
      → has_row (id_of setting.name) (map row front) ≡ false → (BeginsWithDash setting.value → ⊥)
      → Holds shape (front ++ setting ∷ []) (begun setting.name (setting.value ∷ []) held)
      × Leads shape (name_text setting.name ∷ setting.value ∷ []) held (begun setting.name (setting.value ∷ []) held)
  apart-step setting front held has holds none plain =
      let name = setting.name in
      let value = setting.value in
      let named = name-walked name held has in
      let valued = value-walked name value held has plain in
      let end = walk_from (begun name (value ∷ []) held) in (
        record {
          rows = rw (options.by_id name has) (ap (used (filled name) (value ∷ [])) holds.rows ∙ used-row setting front none);
          settles = rw (options.by_id name has) (fits setting front held holds none);
        },
        record {
          walks = λ rest. ap (λ (w : Walk). fold (walked shape.rules []) (walked shape.rules [] w value) rest) named
              ∙ ap (λ (w : Walk). fold (walked shape.rules []) w rest) valued;
          passes = λ rest. one-word shape (walk_from held) (awaiting name held) (name_text name) named (name-passes name front held has holds) (value ∷ rest)
              ∙ one-word shape (awaiting name held) end value valued (value-passes name value held plain) rest;
        },
      )

  -- a setting, however it is spelled
  step : (setting : Setting) (here : List Text) (front : List Setting) (held : Held) → SpellsWord setting here → Has setting.name → Holds shape front held
      → has_row (id_of setting.name) (map row front) ≡ false → (new : Held) × Holds shape (front ++ setting ∷ []) new × Leads shape here held new
  step setting here front held (inl apart) has holds none =
      let s = apart-step setting front held has holds none apart.1 in
      let new = begun setting.name (setting.value ∷ []) held in
      (new, s.0, subst (λ (words : List Text). Leads shape words held new) (sym apart.0) s.1)
  step setting here front held (inr together) has holds none =
      let s = joined-step setting front held has holds none in
      (taken setting held, s.0, subst (λ (words : List Text). Leads shape words held (taken setting held)) (sym together) s.1)

  leads-on : (here rest : List Text) (old mid new : Held) → Leads shape here old mid → Leads shape rest mid new → Leads shape (here ++ rest) old new
  leads-on here rest old mid new one two = record {
    walks = λ more. ap (fold (walked shape.rules []) (walk_from old)) (append_assoc here rest more) ∙ one.walks (rest ++ more) ∙ two.walks more;
    passes = λ more. ap (walk_passes shape [] (walk_from old)) (append_assoc here rest more) ∙ one.passes (rest ++ more) ∙ two.passes more;
  }

  -- settings after those that were read
  reads-on : (all settings front : List Setting) (words : List Text) (held : Held) → AreSingle all → all ≡ front ++ settings → SpellsAll settings words
      → AllHave Has settings → Holds shape front held → (new : Held) × Holds shape all new × Leads shape words held new
  reads-on all [] front words held single whole spelled have holds =
      let stay : Leads shape [] held held = record { walks = λ rest. refl; passes = λ rest. refl } in (
        held,
        subst (λ (read : List Setting). Holds shape read held) (sym (whole ∙ append-nil front)) holds,
        subst (λ (ws : List Text). Leads shape ws held held) (sym spelled) stay,
      )
  reads-on all (setting ∷ settings) front words held single whole spelled have holds =
      let s = step setting spelled.0 front held spelled.3 have.0 holds (not-before all front setting settings single whole) in
      let r = reads-on all settings (front ++ setting ∷ []) spelled.1 s.0 single (whole ∙ sym (append_assoc front (setting ∷ []) settings)) spelled.4 have.1 s.1 in
      (r.0, r.1, subst (λ (ws : List Text). Leads shape ws held r.0) (sym spelled.2) (leads-on spelled.0 spelled.1 held s.0 r.0 s.2 r.2))

  -- where the walk over the words ends
  pub read : (settings : List Setting) (words : List Text) → AreSingle settings → SpellsAll settings words → AllHave Has settings
      → (rows_after shape.rules [] words ≡ map row settings) × (stop_after shape.rules [] words ≡ None)
      × (is_valid shape (map row settings) false ≡ true → level_passes shape [] nothing_held words false ≡ true)
  read settings words single spelled have =
      let r = reads-on settings settings [] words nothing_held single refl spelled have (record { rows = refl; settles = refl }) in
      let whole : walk shape.rules [] nothing_held words ≡ walk_from r.0 =
      ap (fold (walked shape.rules []) (walk_from nothing_held)) (sym (append-nil words)) ∙ r.2.walks [] in
      let end : Held = (walk shape.rules [] nothing_held words).held in
      let held : end ≡ r.0 = ap (λ (w : Walk). w.held) whole in
      let rows : finished shape.rules end ≡ map row settings =
      ap (finished shape.rules) held ∙ stays shape.rules (settled_rows shape.rules r.0.pending r.0.rows) options.empty ∙ r.1.rows in
      let passes : walk_passes shape [] (walk_from nothing_held) words ≡ true =
      ap (walk_passes shape [] (walk_from nothing_held)) (sym (append-nil words)) ∙ r.2.passes [] ∙ no-word shape (walk_from r.0) in
      let settles : settle_passes shape.rules shape.args_override_self end ≡ true =
      ap (settle_passes shape.rules shape.args_override_self) held ∙ r.1.settles in (
        rows,
        ap (λ (w : Walk). w.stopped) whole,
        λ valid. both (walk_passes shape [] (walk_from nothing_held) words)
            (settle_passes shape.rules shape.args_override_self end && (list_all default_passes shape.rules && is_valid shape (finished shape.rules end) false)) passes
            (both (settle_passes shape.rules shape.args_override_self end) (list_all default_passes shape.rules && is_valid shape (finished shape.rules end) false) settles
            (both (list_all default_passes shape.rules) (is_valid shape (finished shape.rules end) false) options.defaults
            (ap (λ (rs : List Row). is_valid shape rs false) rows ∙ valid))),
      )
