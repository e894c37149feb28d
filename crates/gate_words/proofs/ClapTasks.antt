-- The commands take the words that the rule takes, and find the values that their settings give.
use Rattle.std.proofs.Common.{◌≡◌, ℕ, ◌≤◌, List, [], ◌∷◌, length, map, drop, codes, true, false, ◌&&◌, IsTrue, Option, Some, Result, Ok, Err, IfOk, IfErr, is_some, slice_get}
use Rattle.std.proofs.Common.{refl, sym, ap, subst, ◌∙◌, arith}
use Rattle.std.proofs.lemmas.Option.{same_Some}
use Rattle.clap.specs.Matches.{found_of}
use Rattle.clap.specs.Simple.{App, HasMatchesOf, Shape, built, entered, is_simple, matches_of, new_app}
use Rattle.clap.specs.Takes.{built_takes, entered_passes, is_valid, level_passes, takes}
use Rattle.clap.specs.Walk.{Text, arg_by_id, arg_by_long, first_of, nothing_held, rows_of}
use Rattle.clap.specs.declared.parser.matches.ArgMatches.{ArgMatches}
use Rattle.clap.proofs.OnLiterals.{clap_on_literals}
use Rattle.clap.proofs.WalkLemmas.{first_value-rows}
use Rattle.gate_words.specs.Connections.{CountsConnections}
use Rattle.gate_words.specs.Options.{Setting, SpellsAll, value_if, values_of}
use Rattle.gate_words.specs.Rules.{is_user, is_base}
use Rattle.gate_words.specs.Task.{AnswersAt, ChecksAt, IsCheck, IsOnce, IsServe, IsStore, NamesPlace, ServesAt, StoresAt}
use Rattle.gate_words.specs.reading.Commands.{CountsGiven, IsCheckIn, IsOnceIn, IsServeIn, IsStoreIn, PlaceIn, ServeIn, id_of, once_app, serve_app, show_app}
use Rattle.gate_words.specs.reading.Commands.{check_app, store_app, value_in, with_account, with_listening, with_place}
use Rattle.gate_words.specs.declared.option.Name.{Name}
use Rattle.gate_words.specs.declared.option.Name.TheVariants as option
use Rattle.gate_words.specs.declared.place.Place.{Place}
use Rattle.gate_words.specs.declared.task.Task.{Task}
use Rattle.gate_words.specs.declared.task.Task.TheVariants.{Serve, Once, Show, Store, Check, Explain}
use Rattle.gate_words.specs.declared.task.WordsError.{WordsError}
use Rattle.gate_words.specs.declared.task.WordsError.TheVariants.{Refused}
use Rattle.gate_words.proofs.ClapRows.{AreSingle, filled, first-row, given-row, row}
use Rattle.gate_words.proofs.ClapWalk.{AllHave, HasOptions, read}

-- ---- options of the commands

abbrev serve_shape : Shape
serve_shape = (built serve_app).top

abbrev once_shape : Shape
once_shape = (built once_app).top

abbrev store_shape : Shape
store_shape = (built store_app).top

abbrev check_shape : Shape
check_shape = (built check_app).top

-- what the commands are made of
pub serve-is : with_listening (with_place (new_app (codes "serve"))) ≡ serve_app
unfolding serve_app
serve-is = refl

-- the same of `once`
pub once-is : with_place (new_app (codes "once")) ≡ once_app
unfolding once_app
once-is = refl

-- and of `show`
pub show-is : new_app (codes "show") ≡ show_app
unfolding show_app
show-is = refl

-- and of `store`
pub store-is : with_listening (new_app (codes "store")) ≡ store_app
unfolding store_app
store-is = refl

-- and of `check`
pub check-is : with_account (new_app (codes "check")) ≡ check_app
unfolding check_app
check-is = refl

-- their matches are those of clap's definition
pub serve-simple : is_simple serve_app ≡ true
unfolding serve_app
serve-simple = refl

-- the same of `once`
pub once-simple : is_simple once_app ≡ true
unfolding once_app
once-simple = refl

-- and of `store`
pub store-simple : is_simple store_app ≡ true
unfolding store_app
store-simple = refl

-- and of `check`
pub check-simple : is_simple check_app ≡ true
unfolding check_app
check-simple = refl

-- the rows that a command finds, where it is this one
pub rows-by : (r : Result ArgMatches WordsError) (app this : App) (words : List Text) → app ≡ this → is_simple this ≡ true → IfOk r (HasMatchesOf app words)
    → IfOk r (λ m. rows_of (found_of m) ≡ matches_of this words)
rows-by (Ok m) app this words is simple has = (subst (λ (a : App). HasMatchesOf a words m) is has simple).0
rows-by (Err e) app this words is simple has = tt

-- the words that it doesn't refuse
pub refused-by : (r : Result ArgMatches WordsError) (app this : App) (words : List Text) → app ≡ this
    → IfErr r (λ error. error ≡ Refused → takes app words ≡ true → ⊥) → IfErr r (λ error. error ≡ Refused → takes this words ≡ true → ⊥)
refused-by r app this words is none = subst (λ (a : App). IfErr r (λ error. error ≡ Refused → takes a words ≡ true → ⊥)) is none

abbrev OfServe : Name → Type 0
OfServe name = Unit {0}

abbrev OfOnce : Name → Type 0
OfOnce option.Store = Unit {0}
OfOnce option.User = Unit {0}
OfOnce option.Base = Unit {0}
OfOnce option.Listen = ⊥
OfOnce option.Connections = ⊥

abbrev OfStore : Name → Type 0
OfStore option.Store = ⊥
OfStore option.User = ⊥
OfStore option.Base = ⊥
OfStore option.Listen = Unit {0}
OfStore option.Connections = Unit {0}

abbrev OfCheck : Name → Type 0
OfCheck option.Store = Unit {0}
OfCheck option.User = Unit {0}
OfCheck option.Base = ⊥
OfCheck option.Listen = ⊥
OfCheck option.Connections = ⊥

serve-long : (name : Name) → OfServe name → arg_by_long serve_shape.rules (id_of name) ≡ Some (filled name)
unfolding serve_app
serve-long option.Store has = refl
serve-long option.User has = refl
serve-long option.Base has = refl
serve-long option.Listen has = refl
serve-long option.Connections has = refl

serve-id : (name : Name) → OfServe name → arg_by_id serve_shape.rules (id_of name) ≡ Some (filled name)
unfolding serve_app
serve-id option.Store has = refl
serve-id option.User has = refl
serve-id option.Base has = refl
serve-id option.Listen has = refl
serve-id option.Connections has = refl

once-long : (name : Name) → OfOnce name → arg_by_long once_shape.rules (id_of name) ≡ Some (filled name)
unfolding once_app
once-long option.Store has = refl
once-long option.User has = refl
once-long option.Base has = refl
once-long option.Listen has = absurd has
once-long option.Connections has = absurd has

once-id : (name : Name) → OfOnce name → arg_by_id once_shape.rules (id_of name) ≡ Some (filled name)
unfolding once_app
once-id option.Store has = refl
once-id option.User has = refl
once-id option.Base has = refl
once-id option.Listen has = absurd has
once-id option.Connections has = absurd has

store-long : (name : Name) → OfStore name → arg_by_long store_shape.rules (id_of name) ≡ Some (filled name)
unfolding store_app
store-long option.Store has = absurd has
store-long option.User has = absurd has
store-long option.Base has = absurd has
store-long option.Listen has = refl
store-long option.Connections has = refl

store-id : (name : Name) → OfStore name → arg_by_id store_shape.rules (id_of name) ≡ Some (filled name)
unfolding store_app
store-id option.Store has = absurd has
store-id option.User has = absurd has
store-id option.Base has = absurd has
store-id option.Listen has = refl
store-id option.Connections has = refl

check-long : (name : Name) → OfCheck name → arg_by_long check_shape.rules (id_of name) ≡ Some (filled name)
unfolding check_app
check-long option.Store has = refl
check-long option.User has = refl
check-long option.Base has = absurd has
check-long option.Listen has = absurd has
check-long option.Connections has = absurd has

check-id : (name : Name) → OfCheck name → arg_by_id check_shape.rules (id_of name) ≡ Some (filled name)
unfolding check_app
check-id option.Store has = refl
check-id option.User has = refl
check-id option.Base has = absurd has
check-id option.Listen has = absurd has
check-id option.Connections has = absurd has

serve-options : HasOptions serve_shape OfServe
unfolding serve_app
serve-options = record { by_long = serve-long; by_id = serve-id; empty = (refl, (refl, (refl, (refl, (refl, (refl, tt)))))); defaults = refl }

once-options : HasOptions once_shape OfOnce
unfolding once_app
once-options = record { by_long = once-long; by_id = once-id; empty = (refl, (refl, (refl, (refl, tt)))); defaults = refl }

store-options : HasOptions store_shape OfStore
unfolding store_app
store-options = record { by_long = store-long; by_id = store-id; empty = (refl, (refl, (refl, tt))); defaults = refl }

check-options : HasOptions check_shape OfCheck
unfolding check_app
check-options = record { by_long = check-long; by_id = check-id; empty = (refl, (refl, (refl, tt))); defaults = refl }

-- ---- settings that the rule takes

few : (values : List (List ℕ)) (count : ℕ) → CountsConnections values count → length values ≤ 1
few [] count counts = omega arith
few (text ∷ []) count counts = omega arith
few (text ∷ further ∷ texts) count counts = absurd counts

one : (values : List (List ℕ)) (value : List ℕ) → values ≡ value ∷ [] → length values ≤ 1
one values value is = subst (λ (vs : List (List ℕ)). length vs ≤ 1) (sym is) (omega arith)

no-value : (values : List (List ℕ)) → values ≡ [] → length values ≤ 1
no-value values is = subst (λ (vs : List (List ℕ)). length vs ≤ 1) (sym is) (omega arith)

serve-single : (settings : List Setting) (place : Place) (listen : List ℕ) (count : ℕ) → ServesAt settings place listen count → AreSingle settings
serve-single settings place listen count means option.Store = one (values_of option.Store settings) place.store means.names.store
serve-single settings place listen count means option.User = one (values_of option.User settings) place.user means.names.user
serve-single settings place listen count means option.Base = one (values_of option.Base settings) place.base means.names.base
serve-single settings place listen count means option.Listen = one (values_of option.Listen settings) listen means.listens
serve-single settings place listen count means option.Connections = few (values_of option.Connections settings) count means.counts

once-single : (settings : List Setting) (place : Place) → AnswersAt settings place → AreSingle settings
once-single settings place means option.Store = one (values_of option.Store settings) place.store means.names.store
once-single settings place means option.User = one (values_of option.User settings) place.user means.names.user
once-single settings place means option.Base = one (values_of option.Base settings) place.base means.names.base
once-single settings place means option.Listen = no-value (values_of option.Listen settings) means.listens
once-single settings place means option.Connections = no-value (values_of option.Connections settings) means.counts

store-single : (settings : List Setting) (listen : List ℕ) (count : ℕ) → StoresAt settings listen count → AreSingle settings
store-single settings listen count means option.Store = no-value (values_of option.Store settings) means.store
store-single settings listen count means option.User = no-value (values_of option.User settings) means.user
store-single settings listen count means option.Base = no-value (values_of option.Base settings) means.base
store-single settings listen count means option.Listen = one (values_of option.Listen settings) listen means.listens
store-single settings listen count means option.Connections = few (values_of option.Connections settings) count means.counts

check-single : (settings : List Setting) (store user : List ℕ) → ChecksAt settings store user → AreSingle settings
check-single settings store user means option.Store = one (values_of option.Store settings) store means.store_is
check-single settings store user means option.User = one (values_of option.User settings) user means.user_is
check-single settings store user means option.Base = no-value (values_of option.Base settings) means.base
check-single settings store user means option.Listen = no-value (values_of option.Listen settings) means.listens
check-single settings store user means option.Connections = no-value (values_of option.Connections settings) means.counts

serve-have : (settings : List Setting) → AllHave OfServe settings
serve-have [] = tt
serve-have (setting ∷ settings) = (tt, serve-have settings)

kept : (name : Name) (value : List ℕ) (listens counts : List (List ℕ)) → value_if option.Listen name value listens ≡ []
    → value_if option.Connections name value counts ≡ [] → OfOnce name × (listens ≡ []) × (counts ≡ [])
kept option.Store value listens counts l c = (tt, l, c)
kept option.User value listens counts l c = (tt, l, c)
kept option.Base value listens counts l c = (tt, l, c)
kept option.Listen value listens counts l c = absurd (let e : value ∷ listens ≡ [] = l in cc)
kept option.Connections value listens counts l c = absurd (let e : value ∷ counts ≡ [] = c in cc)

once-have : (settings : List Setting) → values_of option.Listen settings ≡ [] → values_of option.Connections settings ≡ [] → AllHave OfOnce settings
once-have [] l c = tt
once-have (setting ∷ settings) l c =
    let k = kept setting.name setting.value (values_of option.Listen settings) (values_of option.Connections settings) l c in
    (k.0, once-have settings k.1 k.2)

kept-listening : (name : Name) (value : List ℕ) (stores users bases : List (List ℕ)) → value_if option.Store name value stores ≡ []
    → value_if option.User name value users ≡ [] → value_if option.Base name value bases ≡ [] → OfStore name × (stores ≡ []) × (users ≡ []) × (bases ≡ [])
kept-listening option.Store value stores users bases s u b = absurd (let e : value ∷ stores ≡ [] = s in cc)
kept-listening option.User value stores users bases s u b = absurd (let e : value ∷ users ≡ [] = u in cc)
kept-listening option.Base value stores users bases s u b = absurd (let e : value ∷ bases ≡ [] = b in cc)
kept-listening option.Listen value stores users bases s u b = (tt, s, u, b)
kept-listening option.Connections value stores users bases s u b = (tt, s, u, b)

store-have : (settings : List Setting) → values_of option.Store settings ≡ [] → values_of option.User settings ≡ [] → values_of option.Base settings ≡ []
    → AllHave OfStore settings
store-have [] s u b = tt
store-have (setting ∷ settings) s u b =
    let k = kept-listening setting.name setting.value (values_of option.Store settings) (values_of option.User settings) (values_of option.Base settings) s u b in
    (k.0, store-have settings k.1 k.2 k.3)

kept-account : (name : Name) (value : List ℕ) (bases listens counts : List (List ℕ)) → value_if option.Base name value bases ≡ []
    → value_if option.Listen name value listens ≡ [] → value_if option.Connections name value counts ≡ []
    → OfCheck name × (bases ≡ []) × (listens ≡ []) × (counts ≡ [])
kept-account option.Store value bases listens counts b l c = (tt, b, l, c)
kept-account option.User value bases listens counts b l c = (tt, b, l, c)
kept-account option.Base value bases listens counts b l c = absurd (let e : value ∷ bases ≡ [] = b in cc)
kept-account option.Listen value bases listens counts b l c = absurd (let e : value ∷ listens ≡ [] = l in cc)
kept-account option.Connections value bases listens counts b l c = absurd (let e : value ∷ counts ≡ [] = c in cc)

check-have : (settings : List Setting) → values_of option.Base settings ≡ [] → values_of option.Listen settings ≡ []
    → values_of option.Connections settings ≡ [] → AllHave OfCheck settings
check-have [] b l c = tt
check-have (setting ∷ settings) b l c =
    let k = kept-account setting.name setting.value (values_of option.Base settings) (values_of option.Listen settings) (values_of option.Connections settings) b l c in
    (k.0, check-have settings k.1 k.2 k.3)

serve-valid : (settings : List Setting) (place : Place) (listen : List ℕ) (count : ℕ) → ServesAt settings place listen count
    → is_valid serve_shape (map row settings) false ≡ true
unfolding serve_app
serve-valid settings place listen count means =
    let store = given-row option.Store settings place.store [] means.names.store in
    let user = given-row option.User settings place.user [] means.names.user in
    let base = given-row option.Base settings place.base [] means.names.base in
    let listens = given-row option.Listen settings listen [] means.listens in
    rw (store, user, base, listens) refl

once-valid : (settings : List Setting) (place : Place) → NamesPlace settings place → is_valid once_shape (map row settings) false ≡ true
unfolding once_app
once-valid settings place names =
    let store = given-row option.Store settings place.store [] names.store in
    let user = given-row option.User settings place.user [] names.user in
    let base = given-row option.Base settings place.base [] names.base in
    rw (store, user, base) refl

store-valid : (settings : List Setting) (listen : List ℕ) (count : ℕ) → StoresAt settings listen count → is_valid store_shape (map row settings) false ≡ true
unfolding store_app
store-valid settings listen count means = rw (given-row option.Listen settings listen [] means.listens) refl

check-valid : (settings : List Setting) (store user : List ℕ) → ChecksAt settings store user → is_valid check_shape (map row settings) false ≡ true
unfolding check_app
check-valid settings store user means =
    let stored = given-row option.Store settings store [] means.store_is in
    let used = given-row option.User settings user [] means.user_is in
    rw (stored, used) refl

-- ---- what clap does with their words

-- the command `serve` takes words whose settings the rule takes
pub serve-takes : (words : List Text) (settings : List Setting) (place : Place) (listen : List ℕ) (count : ℕ) → SpellsAll settings (drop 1 words)
    → ServesAt settings place listen count → takes serve_app words ≡ true
unfolding serve_app
serve-takes words settings place listen count spelled means =
    let r = read serve_shape OfServe serve-options settings (drop 1 words) (serve-single settings place listen count means) spelled (serve-have settings) in
    ap (λ (o : Option (Text × List Text)). entered_passes (built serve_app) o
    && level_passes serve_shape [] nothing_held (drop 1 words) (is_some (entered (built serve_app) o))) r.1
    ∙ r.2 (serve-valid settings place listen count means)

-- and has a row for each setting
pub serve-rows : (words : List Text) (settings : List Setting) (place : Place) (listen : List ℕ) (count : ℕ) → SpellsAll settings (drop 1 words)
    → ServesAt settings place listen count → matches_of serve_app words ≡ map row settings
unfolding serve_app
serve-rows words settings place listen count spelled means =
    (read serve_shape OfServe serve-options settings (drop 1 words) (serve-single settings place listen count means) spelled (serve-have settings)).0

-- the command `once` takes words whose settings the rule takes
pub once-takes : (words : List Text) (settings : List Setting) (place : Place) → SpellsAll settings (drop 1 words) → AnswersAt settings place
    → takes once_app words ≡ true
unfolding once_app
once-takes words settings place spelled means =
    let r = read once_shape OfOnce once-options settings (drop 1 words) (once-single settings place means) spelled (once-have settings means.listens means.counts) in
    ap (λ (o : Option (Text × List Text)). entered_passes (built once_app) o
    && level_passes once_shape [] nothing_held (drop 1 words) (is_some (entered (built once_app) o))) r.1
    ∙ r.2 (once-valid settings place means.names)

-- and has a row for each setting
pub once-rows : (words : List Text) (settings : List Setting) (place : Place) → SpellsAll settings (drop 1 words) → AnswersAt settings place
    → matches_of once_app words ≡ map row settings
unfolding once_app
once-rows words settings place spelled means =
    (read once_shape OfOnce once-options settings (drop 1 words) (once-single settings place means) spelled (once-have settings means.listens means.counts)).0

-- the command `store` takes words whose settings the rule takes
pub store-takes : (words : List Text) (settings : List Setting) (listen : List ℕ) (count : ℕ) → SpellsAll settings (drop 1 words) → StoresAt settings listen count
    → takes store_app words ≡ true
unfolding store_app
store-takes words settings listen count spelled means =
    let r = read store_shape OfStore store-options settings (drop 1 words) (store-single settings listen count means) spelled
    (store-have settings means.store means.user means.base) in
    ap (λ (o : Option (Text × List Text)). entered_passes (built store_app) o
    && level_passes store_shape [] nothing_held (drop 1 words) (is_some (entered (built store_app) o))) r.1
    ∙ r.2 (store-valid settings listen count means)

-- and has a row for each setting
pub store-rows : (words : List Text) (settings : List Setting) (listen : List ℕ) (count : ℕ) → SpellsAll settings (drop 1 words) → StoresAt settings listen count
    → matches_of store_app words ≡ map row settings
unfolding store_app
store-rows words settings listen count spelled means =
    (read store_shape OfStore store-options settings (drop 1 words) (store-single settings listen count means) spelled
    (store-have settings means.store means.user means.base)).0

-- the command `check` takes words whose settings the rule takes
pub check-takes : (words : List Text) (settings : List Setting) (store user : List ℕ) → SpellsAll settings (drop 1 words) → ChecksAt settings store user
    → takes check_app words ≡ true
unfolding check_app
check-takes words settings store user spelled means =
    let r = read check_shape OfCheck check-options settings (drop 1 words) (check-single settings store user means) spelled
    (check-have settings means.base means.listens means.counts) in
    ap (λ (o : Option (Text × List Text)). entered_passes (built check_app) o
    && level_passes check_shape [] nothing_held (drop 1 words) (is_some (entered (built check_app) o))) r.1
    ∙ r.2 (check-valid settings store user means)

-- and has a row for each setting
pub check-rows : (words : List Text) (settings : List Setting) (store user : List ℕ) → SpellsAll settings (drop 1 words) → ChecksAt settings store user
    → matches_of check_app words ≡ map row settings
unfolding check_app
check-rows words settings store user spelled means =
    (read check_shape OfCheck check-options settings (drop 1 words) (check-single settings store user means) spelled
    (check-have settings means.base means.listens means.counts)).0

show-none : built_takes (built show_app) nothing_held [] ≡ true
unfolding clap_on_literals show_app
show-none = refl

-- the command `show` takes its name alone
pub show-takes : (words : List Text) → drop 1 words ≡ [] → takes show_app words ≡ true
unfolding show_app
show-takes words none = ap (built_takes (built show_app) nothing_held) none ∙ show-none

-- ---- the values that it finds

abbrev first : List (List ℕ) → Option (List ℕ)
first values = slice_get values 0

found : (settings : List Setting) (matches : ArgMatches) → rows_of (found_of matches) ≡ map row settings → (name : Name)
    → value_in matches name ≡ first (values_of name settings)
found settings matches rows name = first_value-rows (found_of matches) (id_of name) ∙ ap (first_of (id_of name)) rows ∙ first-row name settings

counts-given : (values : List (List ℕ)) (count : ℕ) → CountsConnections values count → CountsGiven (first values) count
counts-given [] count counts = counts
counts-given (text ∷ []) count counts = counts
counts-given (text ∷ further ∷ texts) count counts = absurd counts

given-counts : (values : List (List ℕ)) (some count : ℕ) → CountsConnections values some → CountsGiven (first values) count → CountsConnections values count
given-counts [] some count counts given = given
given-counts (text ∷ []) some count counts given = given
given-counts (text ∷ further ∷ texts) some count counts given = absurd counts

place-in : (settings : List Setting) (matches : ArgMatches) (place : Place) → rows_of (found_of matches) ≡ map row settings → NamesPlace settings place
    → PlaceIn (value_in matches) place
place-in settings matches place rows names = record {
  store = found settings matches rows option.Store ∙ ap first names.store;
  user = found settings matches rows option.User ∙ ap first names.user;
  base = found settings matches rows option.Base ∙ ap first names.base;
}

-- what is found as an option's value is the one that it has
same-value : (settings : List Setting) (matches : ArgMatches) (name : Name) (has finds : List ℕ) → rows_of (found_of matches) ≡ map row settings
    → values_of name settings ≡ has ∷ [] → value_in matches name ≡ Some finds → has ≡ finds
same-value settings matches name has finds rows is given = same_Some has finds (sym (ap first is) ∙ sym (found settings matches rows name) ∙ given)

place-out : (settings : List Setting) (matches : ArgMatches) (place finds : Place) → rows_of (found_of matches) ≡ map row settings → NamesPlace settings place
    → PlaceIn (value_in matches) finds → NamesPlace settings finds
place-out settings matches place finds rows names given =
    let store = same-value settings matches option.Store place.store finds.store rows names.store given.store in
    let user = same-value settings matches option.User place.user finds.user rows names.user given.user in
    let base = same-value settings matches option.Base place.base finds.base rows names.base given.base in
    record {
      store = names.store ∙ ap (λ (t : List ℕ). t ∷ []) store;
      user = names.user ∙ ap (λ (t : List ℕ). t ∷ []) user;
      base = names.base ∙ ap (λ (t : List ℕ). t ∷ []) base;
      user_rule = subst (λ (t : List ℕ). IsTrue (is_user t)) user names.user_rule;
      base_rule = subst (λ (t : List ℕ). IsTrue (is_base t)) base names.base_rule;
    }

serve-out : (settings : List Setting) (matches : ArgMatches) (place finds : Place) (listen hears : List ℕ) (some count : ℕ)
    → rows_of (found_of matches) ≡ map row settings → ServesAt settings place listen some → ServeIn (value_in matches) finds hears count
    → ServesAt settings finds hears count
serve-out settings matches place finds listen hears some count rows means given = record {
  names = place-out settings matches place finds rows means.names given.names;
  listens = means.listens ∙ ap (λ (t : List ℕ). t ∷ []) (same-value settings matches option.Listen listen hears rows means.listens given.listens);
  counts = given-counts (values_of option.Connections settings) some count means.counts
      (subst (λ (o : Option (List ℕ)). CountsGiven o count) (found settings matches rows option.Connections) given.counts);
}

-- a task that is found is the one that the settings mean
pub serve-meant : (settings : List Setting) (matches : ArgMatches) (place : Place) (listen : List ℕ) (some : ℕ) → rows_of (found_of matches) ≡ map row settings
    → ServesAt settings place listen some → (task : Task) → IsServeIn (value_in matches) task → IsServe settings task
serve-meant settings matches place listen some rows means (Serve finds hears count) given =
    serve-out settings matches place finds listen hears some count rows means given
serve-meant settings matches place listen some rows means (Once finds) given = absurd given
serve-meant settings matches place listen some rows means Show given = absurd given
serve-meant settings matches place listen some rows means (Store hears count) given = absurd given
serve-meant settings matches place listen some rows means (Check store user) given = absurd given
serve-meant settings matches place listen some rows means (Explain page) given = absurd given

-- and one that they mean is found
pub serve-none : (settings : List Setting) (matches : ArgMatches) → rows_of (found_of matches) ≡ map row settings
    → ((task : Task) → IsServeIn (value_in matches) task → ⊥) → (task : Task) → IsServe settings task → ⊥
serve-none settings matches rows none (Serve place listen count) means = none (Serve place listen count) (record {
  names = place-in settings matches place rows means.names;
  listens = found settings matches rows option.Listen ∙ ap first means.listens;
  counts = subst (λ (o : Option (List ℕ)). CountsGiven o count) (sym (found settings matches rows option.Connections))
      (counts-given (values_of option.Connections settings) count means.counts);
})
serve-none settings matches rows none (Once place) means = absurd means
serve-none settings matches rows none Show means = absurd means
serve-none settings matches rows none (Store hears count) means = absurd means
serve-none settings matches rows none (Check store user) means = absurd means
serve-none settings matches rows none (Explain page) means = absurd means

-- the same of `once`: a task that is found is the one that the settings mean
pub once-meant : (settings : List Setting) (matches : ArgMatches) (place : Place) → rows_of (found_of matches) ≡ map row settings → AnswersAt settings place
    → (task : Task) → IsOnceIn (value_in matches) task → IsOnce settings task
once-meant settings matches place rows means (Once finds) given = record {
  names = place-out settings matches place finds rows means.names given;
  listens = means.listens;
  counts = means.counts;
}
once-meant settings matches place rows means (Serve finds hears count) given = absurd given
once-meant settings matches place rows means Show given = absurd given
once-meant settings matches place rows means (Store hears count) given = absurd given
once-meant settings matches place rows means (Check store user) given = absurd given
once-meant settings matches place rows means (Explain page) given = absurd given

-- and one that they mean is found
pub once-none : (settings : List Setting) (matches : ArgMatches) → rows_of (found_of matches) ≡ map row settings
    → ((task : Task) → IsOnceIn (value_in matches) task → ⊥) → (task : Task) → IsOnce settings task → ⊥
once-none settings matches rows none (Once place) means = none (Once place) (place-in settings matches place rows means.names)
once-none settings matches rows none (Serve place listen count) means = absurd means
once-none settings matches rows none Show means = absurd means
once-none settings matches rows none (Store hears count) means = absurd means
once-none settings matches rows none (Check store user) means = absurd means
once-none settings matches rows none (Explain page) means = absurd means

-- the same of `store`: a task that is found is the one that the settings mean
pub store-meant : (settings : List Setting) (matches : ArgMatches) (listen : List ℕ) (some : ℕ) → rows_of (found_of matches) ≡ map row settings
    → StoresAt settings listen some → (task : Task) → IsStoreIn (value_in matches) task → IsStore settings task
store-meant settings matches listen some rows means (Store hears count) given = record {
  listens = means.listens ∙ ap (λ (t : List ℕ). t ∷ []) (same-value settings matches option.Listen listen hears rows means.listens given.listens);
  counts = given-counts (values_of option.Connections settings) some count means.counts
      (subst (λ (o : Option (List ℕ)). CountsGiven o count) (found settings matches rows option.Connections) given.counts);
  store = means.store;
  user = means.user;
  base = means.base;
}
store-meant settings matches listen some rows means (Serve finds hears count) given = absurd given
store-meant settings matches listen some rows means (Once finds) given = absurd given
store-meant settings matches listen some rows means Show given = absurd given
store-meant settings matches listen some rows means (Check store user) given = absurd given
store-meant settings matches listen some rows means (Explain page) given = absurd given

-- and one that they mean is found
pub store-none : (settings : List Setting) (matches : ArgMatches) → rows_of (found_of matches) ≡ map row settings
    → ((task : Task) → IsStoreIn (value_in matches) task → ⊥) → (task : Task) → IsStore settings task → ⊥
store-none settings matches rows none (Store listen count) means = none (Store listen count) (record {
  listens = found settings matches rows option.Listen ∙ ap first means.listens;
  counts = subst (λ (o : Option (List ℕ)). CountsGiven o count) (sym (found settings matches rows option.Connections))
      (counts-given (values_of option.Connections settings) count means.counts);
})
store-none settings matches rows none (Serve place listen count) means = absurd means
store-none settings matches rows none (Once place) means = absurd means
store-none settings matches rows none Show means = absurd means
store-none settings matches rows none (Check store user) means = absurd means
store-none settings matches rows none (Explain page) means = absurd means

-- the same of `check`: a task that is found is the one that the settings mean
pub check-meant : (settings : List Setting) (matches : ArgMatches) (store user : List ℕ) → rows_of (found_of matches) ≡ map row settings
    → ChecksAt settings store user → (task : Task) → IsCheckIn (value_in matches) task → IsCheck settings task
check-meant settings matches store user rows means (Check finds uses) given =
    let used = same-value settings matches option.User user uses rows means.user_is given.user_is in
    record {
      store_is = means.store_is ∙ ap (λ (t : List ℕ). t ∷ []) (same-value settings matches option.Store store finds rows means.store_is given.store_is);
      user_is = means.user_is ∙ ap (λ (t : List ℕ). t ∷ []) used;
      user_rule = subst (λ (t : List ℕ). IsTrue (is_user t)) used means.user_rule;
      base = means.base;
      listens = means.listens;
      counts = means.counts;
    }
check-meant settings matches store user rows means (Serve finds hears count) given = absurd given
check-meant settings matches store user rows means (Once finds) given = absurd given
check-meant settings matches store user rows means Show given = absurd given
check-meant settings matches store user rows means (Store hears count) given = absurd given
check-meant settings matches store user rows means (Explain page) given = absurd given

-- and one that they mean is found
pub check-none : (settings : List Setting) (matches : ArgMatches) → rows_of (found_of matches) ≡ map row settings
    → ((task : Task) → IsCheckIn (value_in matches) task → ⊥) → (task : Task) → IsCheck settings task → ⊥
check-none settings matches rows none (Check store user) means = none (Check store user) (record {
  store_is = found settings matches rows option.Store ∙ ap first means.store_is;
  user_is = found settings matches rows option.User ∙ ap first means.user_is;
})
check-none settings matches rows none (Serve place listen count) means = absurd means
check-none settings matches rows none (Once place) means = absurd means
check-none settings matches rows none Show means = absurd means
check-none settings matches rows none (Store listen count) means = absurd means
check-none settings matches rows none (Explain page) means = absurd means
