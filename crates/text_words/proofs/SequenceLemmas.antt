-- Units one after another: one reading, and a walk over them.
use Rattle.std.proofs.Common.{◌≡◌, ◌≢◌, ℕ, ◌<◌, ◌≤◌, List, [], ◌∷◌, ◌++◌, length, take, drop, refl, sym, ap, ◌∙◌, subst, arith, append_assoc, Option, Some, None}
use Rattle.std.proofs.lemmas.List.{append-nil, append_cancel_left, length-append, take_at, drop_at}
use Rattle.text_words.specs.Sequence.{Sequence, SameStart, IsDetermined, UnitAt}

nothing_left : {A : Type 0} (x s : List A) → x ++ s ≡ [] → x ≡ []
nothing_left [] s e = refl
nothing_left (c ∷ x) s e = absurd cc

-- no text has two readings
pub one_reading : {V A : Type 0} {Is : V → List A → List A → Type 0} → IsDetermined Is → (vs ws : List V) (t : List A) → Sequence Is vs t → Sequence Is ws t → vs ≡ ws
one_reading d [] [] t g h = refl
one_reading d [] (w ∷ ws) t g h = absurd (d.some w h.unit h.rest h.is (nothing_left h.unit h.rest (sym h.whole ∙ g)))
one_reading d (v ∷ vs) [] t g h = absurd (d.some v g.unit g.rest g.is (nothing_left g.unit g.rest (sym g.whole ∙ h)))
one_reading {V} {A} {Is} d (v ∷ vs) (w ∷ ws) t g h =
    let s = d.one v w g.unit h.unit g.rest h.rest (sym g.whole ∙ h.whole) g.is h.is in
    let S : List A → Type 0 = λ u. Sequence Is ws u in
    let tail = one_reading d vs ws g.rest g.more (subst S (sym s.rest) h.more) in
    ap (λ (x : V). x ∷ vs) s.value ∙ ap (λ (xs : List V). w ∷ xs) tail

-- The units vs were read, and rest is what follows them: with the units of rest they are the whole's, and all of
-- the whole's are so.
pub record Behind {V A : Type 0} (Is : V → List A → List A → Type 0) (vs : List V) (rest b : List A) : Type 0 where
  pub forth : (more : List V) → Sequence Is more rest → Sequence Is (vs ++ more) b
  pub back : (all : List V) → Sequence Is all b → (more : List V) × (all ≡ vs ++ more) × Sequence Is more rest

-- before any unit was read, the whole text is what follows
pub begins : {V A : Type 0} (Is : V → List A → List A → Type 0) (b : List A) → Behind Is [] b b
begins Is b = record { forth = λ more h. h; back = λ all h. (all, refl, h) }

-- the unit that was read is the next
pub one_more : {V A : Type 0} {Is : V → List A → List A → Type 0} → IsDetermined Is → (vs : List V) (v : V) (x more rest b : List A) → Behind Is vs rest b → rest ≡ x ++ more
    → Is v x more → Behind Is (vs ++ v ∷ []) more b
one_more {V} {A} {Is} d vs v x more rest b h e i = record { forth = forth; back = λ all s. let q = h.back all s in back all q.0 q.1 q.2 }
  where
    forth : (ws : List V) → Sequence Is ws more → Sequence Is ((vs ++ v ∷ []) ++ ws) b
    forth ws s =
        let P : List V → Type 0 = λ u. Sequence Is u b in
        subst P (sym (append_assoc vs (v ∷ []) ws)) (h.forth (v ∷ ws) (record { unit = x; rest = more; whole = e; is = i; more = s }))

    back : (all ws : List V) → all ≡ vs ++ ws → Sequence Is ws rest → (us : List V) × (all ≡ (vs ++ v ∷ []) ++ us) × Sequence Is us more
    back all [] w s = absurd (d.some v x more i (nothing_left x more (sym e ∙ s)))
    back all (u ∷ us) w s =
        let q = d.one u v s.unit x s.rest more (sym s.whole ∙ e) s.is i in
        let S : List A → Type 0 = λ t. Sequence Is us t in
        (us, w ∙ ap (λ (y : V). vs ++ y ∷ us) q.value ∙ sym (append_assoc vs (v ∷ []) us), subst S q.rest s.more)

-- at the end all units were read
pub all_done : {V A : Type 0} {Is : V → List A → List A → Type 0} (vs : List V) (rest b : List A) → Behind Is vs rest b → rest ≡ [] → Sequence Is vs b
all_done {V} {A} {Is} vs rest b h e = let P : List V → Type 0 = λ u. Sequence Is u b in subst P (append-nil vs) (h.forth [] e)

-- where no unit follows, the whole is no sequence
pub no_more : {V A : Type 0} {Is : V → List A → List A → Type 0} (vs : List V) (rest b : List A) → Behind Is vs rest b → rest ≢ []
    → ((v : V) (x more : List A) → rest ≡ x ++ more → Is v x more → ⊥) → (all : List V) → Sequence Is all b → ⊥
no_more {V} {A} {Is} vs rest b h n none all s = by (h.back all s).0 (h.back all s).2
  where
    by : (more : List V) → Sequence Is more rest → ⊥
    by [] g = n g
    by (u ∷ us) g = none u g.unit g.rest g.whole g.is

-- A function that reads the unit at the front of a text, and how many elements it has.
pub record IsReader {V A : Type 0} (Is : V → List A → List A → Type 0) (read : List A → Option (V × ℕ)) : Type 0 where
  pub sound : (v : V) (n : ℕ) (t : List A) → read t ≡ Some (v, n) → UnitAt Is v n t
  pub complete : (v : V) (x s : List A) → Is v x s → read (x ++ s) ≡ Some (v, length x)
  pub some : (v : V) (x s : List A) → Is v x s → x ≢ []

pub record SamePair {V : Type 0} (v w : V) (m n : ℕ) : Type 0 where
  pub value : v ≡ w
  pub count : m ≡ n

-- equal results of a reading have the same value and the same count
pub same_pair : {V : Type 0} (v w : V) (m n : ℕ) → ◌≡◌ {A = Option (V × ℕ)} (Some (v, m)) (Some (w, n)) → SamePair v w m n
same_pair {V} v w m n e =
    let p : ◌≡◌ {A = V × ℕ} (v, m) (w, n) = cc in
    record { value = ap (λ (q : V × ℕ). q.0) p; count = ap (λ (q : V × ℕ). q.1) p }

-- where a function reads the units, a text begins with one unit at most, and that has one value
pub determined : {V A : Type 0} {Is : V → List A → List A → Type 0} (read : List A → Option (V × ℕ)) → IsReader Is read → IsDetermined Is
determined {V} {A} {Is} read r = record { one = one; some = r.some }
  where
    one : (v w : V) (x y s t : List A) → x ++ s ≡ y ++ t → Is v x s → Is w y t → SameStart v w x y s t
    one v w x y s t e i j =
        let p = same_pair v w (length x) (length y) (sym (r.complete v x s i) ∙ ap read e ∙ r.complete w y t j) in
        let u : x ≡ y = sym (take_at x s (length x) refl) ∙ ap (take (length x)) e ∙ take_at y t (length x) (sym p.count) in
        record { value = p.value; unit = u; rest = append_cancel_left y s t (ap (λ (z : List A). z ++ s) (sym u) ∙ e) }

pub record Within (n m : ℕ) : Type 0 where
  pub some : 0 < n
  pub within : n ≤ m

-- what is read is some of the text
pub unit_within : {V A : Type 0} {Is : V → List A → List A → Type 0} (read : List A → Option (V × ℕ)) → IsReader Is read → (v : V) (n : ℕ) (t : List A) → read t ≡ Some (v, n)
    → Within n (length t)
unit_within {V} {A} {Is} read r v n t e =
    let u = r.sound v n t e in
    record { some = positive u.unit (r.some v u.unit u.rest u.is) u.counted; within = omega (arith, u.counted, ap length u.whole, length-append u.unit u.rest) }
  where
    positive : (x : List A) → x ≢ [] → n ≡ length x → 0 < n
    positive [] k h = absurd (k refl)
    positive (c ∷ x) k h = omega (arith, h)

-- the unit that is read is the next
pub read_more : {V A : Type 0} {Is : V → List A → List A → Type 0} (read : List A → Option (V × ℕ)) → IsReader Is read → (vs : List V) (v : V) (n : ℕ) (rest b : List A)
    → Behind Is vs rest b → read rest ≡ Some (v, n) → Behind Is (vs ++ v ∷ []) (drop n rest) b
read_more {V} {A} {Is} read r vs v n rest b h e =
    let u = r.sound v n rest e in
    let behind : drop n rest ≡ u.rest = ap (drop n) u.whole ∙ drop_at u.unit u.rest n (sym u.counted) in
    let P : List A → Type 0 = λ t. Behind Is (vs ++ v ∷ []) t b in
    subst P (sym behind) (one_more (determined read r) vs v u.unit u.rest rest b h u.whole u.is)

-- where nothing is read, the whole is no sequence
pub read_no_more : {V A : Type 0} {Is : V → List A → List A → Type 0} (read : List A → Option (V × ℕ)) → IsReader Is read → (vs : List V) (rest b : List A) → Behind Is vs rest b
    → rest ≢ [] → read rest ≡ None → (all : List V) → Sequence Is all b → ⊥
read_no_more {V} {A} {Is} read r vs rest b h k e = no_more vs rest b h k (λ v x more w i. let q = r.complete v x more i in let p = ap read w in absurd cc)

-- where two results of a reading are equal, a text that begins with the unit of one begins with the unit of the other
pub unit_same : {V A : Type 0} (Is : V → List A → List A → Type 0) (v w : V) (m n : ℕ) (t : List A) → ◌≡◌ {A = Option (V × ℕ)} (Some (v, m)) (Some (w, n)) → UnitAt Is v m t
    → UnitAt Is w n t
unit_same {V} {A} Is v w m n t e u =
    let p = same_pair v w m n e in
    let P : V → Type 0 = λ y. UnitAt Is y n t in
    let Q : ℕ → Type 0 = λ y. UnitAt Is v y t in
    subst P p.value (subst Q p.count u)
