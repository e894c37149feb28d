-- Words are a task exactly where they are read as it; and one at most.
use Rattle.std.proofs.Common.{◌≡◌, ◌≢◌, inl, inr, ℕ, List, [], ◌∷◌, Bool, true, false, Some, None, Result, Ok, Err, IfOk, IfErr, codes, refl, sym, ap, subst, ◌∙◌}
use Rattle.std.specs.Str.{bytes_eq}
use Rattle.std.proofs.lemmas.Option.{none-some, same_Some}
use Rattle.gate_words.specs.Connections.{CountsConnections}
use Rattle.gate_words.specs.Options.{Setting, SpellsAll, values_of}
use Rattle.gate_words.specs.reading.Words.{page_of, settings as read}
use Rattle.gate_words.specs.Task.{NamesPlace, ServesAt, StoresAt, ChecksAt, IsServe, IsOnce, IsStore, IsCheck, Spelled, AsksFor, IsTask}
use Rattle.gate_words.specs.declared.option.Name.TheVariants as option
use Rattle.gate_words.specs.declared.page.Page.{Page}
use Rattle.gate_words.specs.declared.page.Page.TheVariants as page
use Rattle.gate_words.specs.declared.place.Place.{Place}
use Rattle.gate_words.specs.declared.task.Task.{Task}
use Rattle.gate_words.specs.declared.task.Task.TheVariants.{Serve, Once, Show, Store, Check, Explain}
use Rattle.gate_words.proofs.PagesAsked.{asked-page}
use Rattle.gate_words.proofs.SettingsSpelled.{one-spelling, settings-from, spelled-from}

abbrev first-word : List (List ℕ) → List ℕ
first-word [] = []
first-word (word ∷ words) = word

abbrev rest-words : List (List ℕ) → List (List ℕ)
rest-words [] = []
rest-words (word ∷ words) = words

abbrev is-text : List ℕ → List (List ℕ) → Bool
is-text text words = bytes_eq (first-word words) text

-- words that begin otherwise aren't the command's
other : (words : List (List ℕ)) (command : List ℕ) (a b : List (List ℕ)) (text : List ℕ) → words ≡ command ∷ a → words ≡ text ∷ b → bytes_eq command text ≡ false
    → bytes_eq text text ≡ true → ⊥
other words command a b text one two differs equal =
    let same : is-text text (command ∷ a) ≡ is-text text (text ∷ b) = ap (is-text text) (sym one ∙ two) in
    let e : false ≡ true = sym differs ∙ same ∙ equal in absurd (cc)

-- ---- one task at most

same-value : (a b : List ℕ) (values : List (List ℕ)) → values ≡ a ∷ [] → values ≡ b ∷ [] → a ≡ b
same-value a b values one two = ap first-word (sym one ∙ two)

same-place : (settings : List Setting) (a b : Place) → NamesPlace settings a → NamesPlace settings b → a ≡ b
same-place settings a b one two =
    let store : a.store ≡ b.store = same-value _ _ (values_of option.Store settings) one.store two.store in
    let user : a.user ≡ b.user = same-value _ _ (values_of option.User settings) one.user two.user in
    let base : a.base ≡ b.base = same-value _ _ (values_of option.Base settings) one.base two.base in
    ap (λ (s : List ℕ). let p : Place = record { store = s; user = a.user; base = a.base } in p) store
    ∙ ap (λ (u : List ℕ). let p : Place = record { store = b.store; user = u; base = a.base } in p) user
    ∙ ap (λ (u : List ℕ). let p : Place = record { store = b.store; user = b.user; base = u } in p) base

same-count : (values : List (List ℕ)) (a b : ℕ) → CountsConnections values a → CountsConnections values b → a ≡ b
same-count [] a b one two = one ∙ sym two
same-count (text ∷ []) a b one two = one.value ∙ sym two.value
same-count (text ∷ further ∷ texts) a b one two = absurd one

same-serve : (settings : List Setting) (p q : Place) (l m : List ℕ) (a b : ℕ) → ServesAt settings p l a → ServesAt settings q m b → Serve p l a ≡ Serve q m b
same-serve settings p q l m a b one two =
    ap (λ (x : Place). Serve x l a) (same-place settings p q one.names two.names)
    ∙ ap (λ (x : List ℕ). Serve q x a) (same-value l m (values_of option.Listen settings) one.listens two.listens)
    ∙ ap (λ (x : ℕ). Serve q m x) (same-count (values_of option.Connections settings) a b one.counts two.counts)

same-store : (settings : List Setting) (l m : List ℕ) (a b : ℕ) → StoresAt settings l a → StoresAt settings m b → Store l a ≡ Store m b
same-store settings l m a b one two =
    ap (λ (x : List ℕ). Store x a) (same-value l m (values_of option.Listen settings) one.listens two.listens)
    ∙ ap (λ (x : ℕ). Store m x) (same-count (values_of option.Connections settings) a b one.counts two.counts)

same-check : (settings : List Setting) (a b u v : List ℕ) → ChecksAt settings a u → ChecksAt settings b v → Check a u ≡ Check b v
same-check settings a b u v one two =
    ap (λ (x : List ℕ). Check x u) (same-value a b (values_of option.Store settings) one.store_is two.store_is)
    ∙ ap (λ (x : List ℕ). Check b x) (same-value u v (values_of option.User settings) one.user_is two.user_is)

-- two readings of words after one command
same-spelled : (Means : List Setting → Task → Type 0) (words : List (List ℕ)) (command : List ℕ) (first second : Task)
    → ((settings : List Setting) → Means settings first → Means settings second → first ≡ second)
    → ((options : List (List ℕ)) × (words ≡ command ∷ options) × Spelled Means options first)
    → ((options : List (List ℕ)) × (words ≡ command ∷ options) × Spelled Means options second) → first ≡ second
same-spelled Means words command first second same one two =
    let options : one.0 ≡ two.0 = ap rest-words (sym one.1 ∙ two.1) in
    let spelled = subst (λ (o : List (List ℕ)). SpellsAll one.2.0 o) options one.2.1 in
    let settings : one.2.0 ≡ two.2.0 = one-spelling two.0 one.2.0 two.2.0 spelled two.2.1 in
    same two.2.0 (subst (λ (s : List Setting). Means s first) settings one.2.2) two.2.2

-- options that settings spell aren't `--help` or `--version` alone
not-alone : (option : List ℕ) (options : List (List ℕ)) (settings : List Setting) → SpellsAll settings options → options ≡ option ∷ [] → None ≡ read None (option ∷ []) → ⊥
not-alone option options settings spelled is none = none-some settings (none ∙ ap (read None) (sym is) ∙ settings-from settings options spelled)

no-help : (text : List ℕ) (words : List (List ℕ)) → words ≡ text ∷ codes "--help" ∷ [] → (options : List (List ℕ)) (command : List ℕ) (settings : List Setting)
    → words ≡ command ∷ options → SpellsAll settings options → ⊥
no-help text words asked options command settings is spelled = not-alone (codes "--help") options settings spelled (ap rest-words (sym is ∙ asked)) refl

no-version : (text : List ℕ) (words : List (List ℕ)) → words ≡ text ∷ codes "--version" ∷ [] → (options : List (List ℕ)) (command : List ℕ) (settings : List Setting)
    → words ≡ command ∷ options → SpellsAll settings options → ⊥
no-version text words asked options command settings is spelled = not-alone (codes "--version") options settings spelled (ap rest-words (sym is ∙ asked)) refl

-- words that ask for a page are no command with settings
no-page : (asks : Page) (words options : List (List ℕ)) (command : List ℕ) (settings : List Setting) → AsksFor asks words → words ≡ command ∷ options → SpellsAll settings options
    → (bytes_eq command (codes "--help") ≡ false) → (bytes_eq command (codes "--version") ≡ false) → ⊥
no-page page.Program words options command settings asked is spelled h v = other words command options [] (codes "--help") is asked h refl
no-page page.Version words options command settings (inl asked) is spelled h v = other words command options [] (codes "--version") is asked v refl
no-page page.Version words options command settings (inr (inl asked)) is spelled h v = no-version _ words asked options command settings is spelled
no-page page.Version words options command settings (inr (inr (inl asked))) is spelled h v = no-version _ words asked options command settings is spelled
no-page page.Version words options command settings (inr (inr (inr (inl asked)))) is spelled h v = no-version _ words asked options command settings is spelled
no-page page.Version words options command settings (inr (inr (inr (inr (inl asked))))) is spelled h v = no-version _ words asked options command settings is spelled
no-page page.Version words options command settings (inr (inr (inr (inr (inr asked))))) is spelled h v = no-version _ words asked options command settings is spelled
no-page page.Serve words options command settings asked is spelled h v = no-help _ words asked options command settings is spelled
no-page page.Once words options command settings asked is spelled h v = no-help _ words asked options command settings is spelled
no-page page.Show words options command settings asked is spelled h v = no-help _ words asked options command settings is spelled
no-page page.Store words options command settings asked is spelled h v = no-help _ words asked options command settings is spelled
no-page page.Check words options command settings asked is spelled h v = no-help _ words asked options command settings is spelled

-- words are one task at most
pub same-task : (words : List (List ℕ)) (first second : Task) → IsTask words first → IsTask words second → first ≡ second
same-task words (Serve p l a) (Serve q m b) one two =
    same-spelled IsServe words (codes "serve") (Serve p l a) (Serve q m b) (λ settings x y. same-serve settings p q l m a b x y) one two
same-task words (Serve p l a) (Once q) one two = absurd (other words (codes "serve") one.0 two.0 (codes "once") one.1 two.1 refl refl)
same-task words (Serve p l a) Show one two = absurd (other words (codes "serve") one.0 [] (codes "show") one.1 two refl refl)
same-task words (Serve p l a) (Store m b) one two = absurd (other words (codes "serve") one.0 two.0 (codes "store") one.1 two.1 refl refl)
same-task words (Serve p l a) (Check n v) one two = absurd (other words (codes "serve") one.0 two.0 (codes "check") one.1 two.1 refl refl)
same-task words (Serve p l a) (Explain shown) one two = absurd (no-page shown words one.0 (codes "serve") one.2.0 two one.1 one.2.1 refl refl)
same-task words (Once p) (Serve q m b) one two = absurd (other words (codes "once") one.0 two.0 (codes "serve") one.1 two.1 refl refl)
same-task words (Once p) (Once q) one two =
    same-spelled IsOnce words (codes "once") (Once p) (Once q) (λ settings x y. ap Once (same-place settings p q x.names y.names)) one two
same-task words (Once p) Show one two = absurd (other words (codes "once") one.0 [] (codes "show") one.1 two refl refl)
same-task words (Once p) (Store m b) one two = absurd (other words (codes "once") one.0 two.0 (codes "store") one.1 two.1 refl refl)
same-task words (Once p) (Check n v) one two = absurd (other words (codes "once") one.0 two.0 (codes "check") one.1 two.1 refl refl)
same-task words (Once p) (Explain shown) one two = absurd (no-page shown words one.0 (codes "once") one.2.0 two one.1 one.2.1 refl refl)
same-task words Show (Serve q m b) one two = absurd (other words (codes "show") [] two.0 (codes "serve") one two.1 refl refl)
same-task words Show (Once q) one two = absurd (other words (codes "show") [] two.0 (codes "once") one two.1 refl refl)
same-task words Show Show one two = refl
same-task words Show (Store m b) one two = absurd (other words (codes "show") [] two.0 (codes "store") one two.1 refl refl)
same-task words Show (Check n v) one two = absurd (other words (codes "show") [] two.0 (codes "check") one two.1 refl refl)
same-task words Show (Explain shown) one two = absurd (none-some shown (ap page_of (sym one) ∙ asked-page shown words two))
same-task words (Store l a) (Serve q m b) one two = absurd (other words (codes "store") one.0 two.0 (codes "serve") one.1 two.1 refl refl)
same-task words (Store l a) (Once q) one two = absurd (other words (codes "store") one.0 two.0 (codes "once") one.1 two.1 refl refl)
same-task words (Store l a) Show one two = absurd (other words (codes "store") one.0 [] (codes "show") one.1 two refl refl)
same-task words (Store l a) (Store m b) one two =
    same-spelled IsStore words (codes "store") (Store l a) (Store m b) (λ settings x y. same-store settings l m a b x y) one two
same-task words (Store l a) (Check n v) one two = absurd (other words (codes "store") one.0 two.0 (codes "check") one.1 two.1 refl refl)
same-task words (Store l a) (Explain shown) one two = absurd (no-page shown words one.0 (codes "store") one.2.0 two one.1 one.2.1 refl refl)
same-task words (Check m u) (Serve q l b) one two = absurd (other words (codes "check") one.0 two.0 (codes "serve") one.1 two.1 refl refl)
same-task words (Check m u) (Once q) one two = absurd (other words (codes "check") one.0 two.0 (codes "once") one.1 two.1 refl refl)
same-task words (Check m u) Show one two = absurd (other words (codes "check") one.0 [] (codes "show") one.1 two refl refl)
same-task words (Check m u) (Store l b) one two = absurd (other words (codes "check") one.0 two.0 (codes "store") one.1 two.1 refl refl)
same-task words (Check m u) (Check n v) one two =
    same-spelled IsCheck words (codes "check") (Check m u) (Check n v) (λ settings x y. same-check settings m n u v x y) one two
same-task words (Check m u) (Explain shown) one two = absurd (no-page shown words one.0 (codes "check") one.2.0 two one.1 one.2.1 refl refl)
same-task words (Explain shown) (Serve q m b) one two = absurd (no-page shown words two.0 (codes "serve") two.2.0 one two.1 two.2.1 refl refl)
same-task words (Explain shown) (Once q) one two = absurd (no-page shown words two.0 (codes "once") two.2.0 one two.1 two.2.1 refl refl)
same-task words (Explain shown) Show one two = absurd (none-some shown (ap page_of (sym two) ∙ asked-page shown words one))
same-task words (Explain shown) (Store m b) one two = absurd (no-page shown words two.0 (codes "store") two.2.0 one two.1 two.2.1 refl refl)
same-task words (Explain shown) (Check n v) one two = absurd (no-page shown words two.0 (codes "check") two.2.0 one two.1 two.2.1 refl refl)
same-task words (Explain shown) (Explain other_page) one two =
    ap Explain (same_Some shown other_page (sym (asked-page shown words one) ∙ asked-page other_page words two))

-- ---- words that spell settings, or none

-- what follows for the value, and for the error
pub ok-then : {T E : Type 0} (r : Result T E) {P Q : T → Type 0} → IfOk r P → ((x : T) → P x → Q x) → IfOk r Q
ok-then (Ok x) p then = then x p
ok-then (Err e) p then = tt

-- what follows for the error
pub err-then : {T E : Type 0} (r : Result T E) {P Q : E → Type 0} → IfErr r P → ((e : E) → P e → Q e) → IfErr r Q
err-then (Ok x) p then = tt
err-then (Err e) p then = then e p

-- options that are read as settings spell the task that these mean
pub spelled-by : (Means : List Setting → Task → Type 0) (options : List (List ℕ)) (settings : List Setting) (task : Task) → read None options ≡ Some settings → Means settings task
    → Spelled Means options task
spelled-by Means options settings task is means = (settings, spelled-from options None settings is, means)

-- options that aren't read as settings spell no task
pub not-spelled : (Means : List Setting → Task → Type 0) (options : List (List ℕ)) → read None options ≡ None → (task : Task) → Spelled Means options task → ⊥
not-spelled Means options none task spelled = none-some spelled.0 (sym none ∙ settings-from spelled.0 options spelled.1)

-- options that are read as settings that mean no task spell none
pub not-meant : (Means : List Setting → Task → Type 0) (options : List (List ℕ)) (settings : List Setting) → read None options ≡ Some settings
    → ((task : Task) → Means settings task → ⊥) → (task : Task) → Spelled Means options task → ⊥
not-meant Means options settings is none task spelled =
    none task (subst (λ (s : List Setting). Means s task) (same_Some spelled.0 settings (sym (settings-from spelled.0 options spelled.1) ∙ is)) spelled.2)

-- ---- words that are refused

-- `serve` and options that spell none of its tasks are no task, where no page is asked for
pub no-serve : (options : List (List ℕ)) → page_of (codes "serve" ∷ options) ≡ None → ((task : Task) → Spelled IsServe options task → ⊥)
    → (task : Task) → IsTask (codes "serve" ∷ options) task → ⊥
no-serve options no_page none (Serve p l a) asked = none (Serve p l a) (subst (λ (o : List (List ℕ)). Spelled IsServe o (Serve p l a)) (sym (ap rest-words asked.1)) asked.2)
no-serve options no_page none (Once p) asked = other (codes "serve" ∷ options) (codes "serve") options asked.0 (codes "once") refl asked.1 refl refl
no-serve options no_page none Show asked = other (codes "serve" ∷ options) (codes "serve") options [] (codes "show") refl asked refl refl
no-serve options no_page none (Store l a) asked = other (codes "serve" ∷ options) (codes "serve") options asked.0 (codes "store") refl asked.1 refl refl
no-serve options no_page none (Check m u) asked = other (codes "serve" ∷ options) (codes "serve") options asked.0 (codes "check") refl asked.1 refl refl
no-serve options no_page none (Explain shown) asked = none-some shown (sym no_page ∙ asked-page shown (codes "serve" ∷ options) asked)

-- `once` and options that spell none of its tasks are no task, where no page is asked for
pub no-once : (options : List (List ℕ)) → page_of (codes "once" ∷ options) ≡ None → ((task : Task) → Spelled IsOnce options task → ⊥)
    → (task : Task) → IsTask (codes "once" ∷ options) task → ⊥
no-once options no_page none (Serve p l a) asked = other (codes "once" ∷ options) (codes "once") options asked.0 (codes "serve") refl asked.1 refl refl
no-once options no_page none (Once p) asked = none (Once p) (subst (λ (o : List (List ℕ)). Spelled IsOnce o (Once p)) (sym (ap rest-words asked.1)) asked.2)
no-once options no_page none Show asked = other (codes "once" ∷ options) (codes "once") options [] (codes "show") refl asked refl refl
no-once options no_page none (Store l a) asked = other (codes "once" ∷ options) (codes "once") options asked.0 (codes "store") refl asked.1 refl refl
no-once options no_page none (Check m u) asked = other (codes "once" ∷ options) (codes "once") options asked.0 (codes "check") refl asked.1 refl refl
no-once options no_page none (Explain shown) asked = none-some shown (sym no_page ∙ asked-page shown (codes "once" ∷ options) asked)

-- `show` and words after it are no task, where no page is asked for
pub no-show : (options : List (List ℕ)) → page_of (codes "show" ∷ options) ≡ None → (options ≡ [] → ⊥) → (task : Task) → IsTask (codes "show" ∷ options) task → ⊥
no-show options no_page none (Serve p l a) asked = other (codes "show" ∷ options) (codes "show") options asked.0 (codes "serve") refl asked.1 refl refl
no-show options no_page none (Once p) asked = other (codes "show" ∷ options) (codes "show") options asked.0 (codes "once") refl asked.1 refl refl
no-show options no_page none Show asked = none (ap rest-words asked)
no-show options no_page none (Store l a) asked = other (codes "show" ∷ options) (codes "show") options asked.0 (codes "store") refl asked.1 refl refl
no-show options no_page none (Check m u) asked = other (codes "show" ∷ options) (codes "show") options asked.0 (codes "check") refl asked.1 refl refl
no-show options no_page none (Explain shown) asked = none-some shown (sym no_page ∙ asked-page shown (codes "show" ∷ options) asked)

-- `store` and options that spell none of its tasks are no task, where no page is asked for
pub no-store : (options : List (List ℕ)) → page_of (codes "store" ∷ options) ≡ None → ((task : Task) → Spelled IsStore options task → ⊥)
    → (task : Task) → IsTask (codes "store" ∷ options) task → ⊥
no-store options no_page none (Serve p l a) asked = other (codes "store" ∷ options) (codes "store") options asked.0 (codes "serve") refl asked.1 refl refl
no-store options no_page none (Once p) asked = other (codes "store" ∷ options) (codes "store") options asked.0 (codes "once") refl asked.1 refl refl
no-store options no_page none Show asked = other (codes "store" ∷ options) (codes "store") options [] (codes "show") refl asked refl refl
no-store options no_page none (Store l a) asked = none (Store l a) (subst (λ (o : List (List ℕ)). Spelled IsStore o (Store l a)) (sym (ap rest-words asked.1)) asked.2)
no-store options no_page none (Check m u) asked = other (codes "store" ∷ options) (codes "store") options asked.0 (codes "check") refl asked.1 refl refl
no-store options no_page none (Explain shown) asked = none-some shown (sym no_page ∙ asked-page shown (codes "store" ∷ options) asked)

-- `check` and options that spell none of its tasks are no task, where no page is asked for
pub no-check : (options : List (List ℕ)) → page_of (codes "check" ∷ options) ≡ None → ((task : Task) → Spelled IsCheck options task → ⊥)
    → (task : Task) → IsTask (codes "check" ∷ options) task → ⊥
no-check options no_page none (Serve p l a) asked = other (codes "check" ∷ options) (codes "check") options asked.0 (codes "serve") refl asked.1 refl refl
no-check options no_page none (Once p) asked = other (codes "check" ∷ options) (codes "check") options asked.0 (codes "once") refl asked.1 refl refl
no-check options no_page none Show asked = other (codes "check" ∷ options) (codes "check") options [] (codes "show") refl asked refl refl
no-check options no_page none (Store l a) asked = other (codes "check" ∷ options) (codes "check") options asked.0 (codes "store") refl asked.1 refl refl
no-check options no_page none (Check m u) asked = none (Check m u) (subst (λ (o : List (List ℕ)). Spelled IsCheck o (Check m u)) (sym (ap rest-words asked.1)) asked.2)
no-check options no_page none (Explain shown) asked = none-some shown (sym no_page ∙ asked-page shown (codes "check" ∷ options) asked)

-- words of which the first is no command are no task, where no page is asked for
pub no-command : (command : List ℕ) (options : List (List ℕ)) → page_of (command ∷ options) ≡ None → command ≢ codes "serve" → command ≢ codes "once" → command ≢ codes "show"
    → command ≢ codes "store" → command ≢ codes "check" → (task : Task) → IsTask (command ∷ options) task → ⊥
no-command command options no_page no_serve no_once no_show no_store no_check (Serve p l a) asked = no_serve (ap first-word asked.1)
no-command command options no_page no_serve no_once no_show no_store no_check (Once p) asked = no_once (ap first-word asked.1)
no-command command options no_page no_serve no_once no_show no_store no_check Show asked = no_show (ap first-word asked)
no-command command options no_page no_serve no_once no_show no_store no_check (Store l a) asked = no_store (ap first-word asked.1)
no-command command options no_page no_serve no_once no_show no_store no_check (Check m u) asked = no_check (ap first-word asked.1)
no-command command options no_page no_serve no_once no_show no_store no_check (Explain shown) asked = none-some shown (sym no_page ∙ asked-page shown (command ∷ options) asked)

-- without any word there is no task
pub no-words : (task : Task) → IsTask [] task → ⊥
no-words (Serve p l a) asked = let e = asked.1 in absurd (cc)
no-words (Once p) asked = let e = asked.1 in absurd (cc)
no-words Show asked = absurd (cc)
no-words (Store l a) asked = let e = asked.1 in absurd (cc)
no-words (Check m u) asked = let e = asked.1 in absurd (cc)
no-words (Explain shown) asked = none-some shown (asked-page shown [] asked)
