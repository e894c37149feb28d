-- Readers one after another, and readers whose value is made of what was read.
use Rattle.std.proofs.Common.{◌≡◌, ℕ, List, [], ◌∷◌, ◌++◌, refl, sym, ap, subst, ◌∙◌, append_assoc, inl, inr}
use Rattle.std.specs.Prelude.{Result, Ok, Err}
use Rattle.std.proofs.lemmas.List.{map-append}
use Rattle.imap_types.proofs.EachLemmas.{each_parts}
use Rattle.imap_types.specs.Texts.{Then, plain_of, plain_octets}
use Rattle.command_parts.specs.Fields.{fits_octet, AreOctets}
use Rattle.command_parts.specs.declared.no_command.NoCommand.{NoCommand}
use Rattle.command_parts.specs.declared.no_command.NoCommand.TheVariants.{NeedMore, WantsLiteral, Bad}
use Rattle.command_parts.specs.reading.Steps.{◌>>=◌}
use Rattle.command_parts.proofs.Readers.{stop_of, IsOpen, IsWrong, Stopped, IsReader, some_cons, more_after, plain_cut, seam, stops_join, bind_ok, bind_err}

-- what stands behind read octets are octets
pub octets_behind : (b t rest : List ℕ) → AreOctets b → b ≡ plain_octets t ++ rest → AreOctets rest
octets_behind b t rest h e = (each_parts fits_octet (plain_octets t) rest (subst AreOctets e h)).1

-- ---- one after another

-- a text of the first language, and one of the second, which may depend on the first one's value
abbrev pub Chain : {A C : Type 0} → (A → List ℕ → Type 0) → (A → C → List ℕ → Type 0) → C → List ℕ → Type 0
Chain {A = A} L M c t = (a : A) × Then (L a) (M a c) t

abbrev pub chained : {A C : Type 0} → (List ℕ → Result (A × List ℕ) NoCommand) → (A → List ℕ → Result (C × List ℕ) NoCommand) → List ℕ → Result (C × List ℕ) NoCommand
chained R Q b = R b >>= λ x. Q x.0 x.1

chain_whole : {A C : Type 0} (first : NoCommand) (second : A → NoCommand) (L : A → List ℕ → Type 0) (M : A → C → List ℕ → Type 0) (R : List ℕ → Result (A × List ℕ) NoCommand)
    (Q : A → List ℕ → Result (C × List ℕ) NoCommand) → IsReader first L R → ((a : A) → IsReader (second a) (M a) (Q a))
    → (c : C) (t rest : List ℕ) → Chain L M c t → chained R Q (plain_octets t ++ rest) ≡ Ok (c, rest)
chain_whole {A} {C} first second L M R Q r q c t rest h =
    let th = h.1 in
    ap (chained R Q) (ap (λ (u : List ℕ). plain_octets u ++ rest) th.whole ∙ plain_cut th.front th.back rest)
    ∙ ap (λ (o : Result (A × List ℕ) NoCommand). o >>= λ x. Q x.0 x.1) (r.whole h.0 th.front (plain_octets th.back ++ rest) th.first)
    ∙ (q h.0).whole c th.back rest th.second

chain_short : {A C : Type 0} (first : NoCommand) (second : A → NoCommand) (L : A → List ℕ → Type 0) (M : A → C → List ℕ → Type 0) (R : List ℕ → Result (A × List ℕ) NoCommand)
    (Q : A → List ℕ → Result (C × List ℕ) NoCommand) → IsReader first L R → ((a : A) → IsReader (second a) (M a) (Q a))
    → ((a : A) (t : List ℕ) → L a t → stop_of first t ≡ second a)
    → (c : C) (t more : List ℕ) → Chain L M c (t ++ more) → (more ≡ [] → ⊥) → chained R Q (plain_octets t) ≡ Err (stop_of first t)
chain_short {A} {C} first second L M R Q r q ends c t more h proper =
    let th = h.1 in
    let on : Result (A × List ℕ) NoCommand → Result (C × List ℕ) NoCommand = λ o. o >>= λ x. Q x.0 x.1 in
    elim (seam t more th.front th.back th.whole) [
      | inl s ↦ ap on (r.short h.0 t (s.0 ∷ s.1) (subst (L h.0) s.2 th.first) (some_cons s.0 s.1))
      | inr s ↦ ap (chained R Q) (ap plain_octets s.1 ∙ map-append plain_of th.front s.0)
          ∙ ap on (r.whole h.0 th.front (plain_octets s.0) th.first)
          ∙ (q h.0).short c s.0 more (subst (M h.0 c) s.2 th.second) proper
          ∙ ap (λ (e : NoCommand). Err e) (stops_join first (second h.0) th.front s.0 (ends h.0 th.front th.first) ∙ ap (stop_of first) (sym s.1))
    ]

chain_found : {A C : Type 0} (first : NoCommand) (second : A → NoCommand) (L : A → List ℕ → Type 0) (M : A → C → List ℕ → Type 0) (R : List ℕ → Result (A × List ℕ) NoCommand)
    (Q : A → List ℕ → Result (C × List ℕ) NoCommand) → IsReader first L R → ((a : A) → IsReader (second a) (M a) (Q a))
    → (b : List ℕ) (c : C) (rest : List ℕ) → AreOctets b → chained R Q b ≡ Ok (c, rest) → (t : List ℕ) × Chain L M c t × (b ≡ plain_octets t ++ rest)
chain_found {A} {C} first second L M R Q r q b c rest are e =
    let x = bind_ok (R b) (λ x. Q x.0 x.1) (c, rest) e in
    let f = r.found b x.0.0 x.0.1 are x.1 in
    let g = (q x.0.0).found x.0.1 c rest (octets_behind b f.0 x.0.1 are f.2) x.2 in (
      f.0 ++ g.0,
      (x.0.0, record { front = f.0; back = g.0; whole = refl; first = f.1; second = g.1 }),
      f.2 ∙ ap (λ (u : List ℕ). plain_octets f.0 ++ u) g.2 ∙ sym (plain_cut f.0 g.0 rest),
    )

-- the first stops, and some text of the second goes on
first_open : {A C : Type 0} (first : NoCommand) (L : A → List ℕ → Type 0) (M : A → C → List ℕ → Type 0) → ((a : A) → (c : C) × (t : List ℕ) × M a c t)
    → (b : List ℕ) (e : NoCommand) → IsOpen L first b e → IsOpen (Chain L M) first b e
first_open first L M some b e o =
    let x = some o.value in
    record {
      value = x.0;
      text = o.text;
      more = o.more ++ x.1;
      reads = (o.value, record { front = o.text ++ o.more; back = x.1; whole = sym (append_assoc o.text o.more x.1); first = o.reads; second = x.2 });
      proper = more_after o.more x.1 o.proper;
      octets = o.octets;
      stop = o.stop;
    }

first_wrong : {A C : Type 0} (L : A → List ℕ → Type 0) (M : A → C → List ℕ → Type 0) (R : List ℕ → Result (A × List ℕ) NoCommand)
    (Q : A → List ℕ → Result (C × List ℕ) NoCommand) → ((a : A) → (c : C) × (t : List ℕ) × M a c t)
    → (b : List ℕ) (left : ℕ) → IsWrong L R b left → IsWrong (Chain L M) (chained R Q) b left
first_wrong {A} L M R Q some b left o =
    let x = some o.value in
    record {
      value = x.0;
      text = o.text;
      more = o.more ++ x.1;
      octet = o.octet;
      rest = o.rest;
      reads = (o.value, record { front = o.text ++ o.more; back = x.1; whole = sym (append_assoc o.text o.more x.1); first = o.reads; second = x.2 });
      proper = more_after o.more x.1 o.proper;
      whole = o.whole;
      left_is = o.left_is;
      stays = λ r. ap (λ (q : Result (A × List ℕ) NoCommand). q >>= λ x. Q x.0 x.1) (o.stays r);
    }

-- the second stops
second_open : {A C : Type 0} (first second : NoCommand) (L : A → List ℕ → Type 0) (M : A → C → List ℕ → Type 0) → (a : A) (t b rest : List ℕ) → L a t → b ≡ plain_octets t ++ rest
    → stop_of first t ≡ second → (e : NoCommand) → IsOpen (M a) second rest e → IsOpen (Chain L M) first b e
second_open first second L M a t b rest reads whole ends e o = record {
  value = o.value;
  text = t ++ o.text;
  more = o.more;
  reads = (a, record { front = t; back = o.text ++ o.more; whole = append_assoc t o.text o.more; first = reads; second = o.reads });
  proper = o.proper;
  octets = map-append plain_of t o.text ∙ ap (λ (u : List ℕ). plain_octets t ++ u) o.octets ∙ sym whole;
  stop = o.stop ∙ stops_join first second t o.text ends;
}

second_wrong : {A C : Type 0} (first : NoCommand) (L : A → List ℕ → Type 0) (M : A → C → List ℕ → Type 0) (R : List ℕ → Result (A × List ℕ) NoCommand)
    (Q : A → List ℕ → Result (C × List ℕ) NoCommand) → IsReader first L R → (a : A) (t b rest : List ℕ) → L a t → b ≡ plain_octets t ++ rest
    → (left : ℕ) → IsWrong (M a) (Q a) rest left → IsWrong (Chain L M) (chained R Q) b left
second_wrong {A} {C} first L M R Q r a t b rest reads whole left o = record {
  value = o.value;
  text = t ++ o.text;
  more = o.more;
  octet = o.octet;
  rest = o.rest;
  reads = (a, record { front = t; back = o.text ++ o.more; whole = append_assoc t o.text o.more; first = reads; second = o.reads });
  proper = o.proper;
  whole = whole ∙ ap (λ (u : List ℕ). plain_octets t ++ u) o.whole ∙ sym (plain_cut t o.text (o.octet ∷ o.rest));
  left_is = o.left_is;
  stays = λ s. ap (chained R Q) (plain_cut t o.text (o.octet ∷ s))
      ∙ ap (λ (q : Result (A × List ℕ) NoCommand). q >>= λ x. Q x.0 x.1) (r.whole a t (plain_octets o.text ++ o.octet ∷ s) reads)
      ∙ o.stays s;
}

lift_first : {A C : Type 0} (first : NoCommand) (L : A → List ℕ → Type 0) (M : A → C → List ℕ → Type 0) (R : List ℕ → Result (A × List ℕ) NoCommand)
    (Q : A → List ℕ → Result (C × List ℕ) NoCommand) → ((a : A) → (c : C) × (t : List ℕ) × M a c t)
    → (b : List ℕ) (e : NoCommand) → Stopped L R first b e → Stopped (Chain L M) (chained R Q) first b e
lift_first first L M R Q some b NeedMore o = first_open first L M some b NeedMore o
lift_first first L M R Q some b WantsLiteral o = first_open first L M some b WantsLiteral o
lift_first first L M R Q some b (Bad left) o = first_wrong L M R Q some b left o

lift_second : {A C : Type 0} (first second : NoCommand) (L : A → List ℕ → Type 0) (M : A → C → List ℕ → Type 0) (R : List ℕ → Result (A × List ℕ) NoCommand)
    (Q : A → List ℕ → Result (C × List ℕ) NoCommand) → IsReader first L R → (a : A) (t b rest : List ℕ) → L a t → b ≡ plain_octets t ++ rest
    → stop_of first t ≡ second → (e : NoCommand) → Stopped (M a) (Q a) second rest e → Stopped (Chain L M) (chained R Q) first b e
lift_second first second L M R Q r a t b rest reads whole ends NeedMore o = second_open first second L M a t b rest reads whole ends NeedMore o
lift_second first second L M R Q r a t b rest reads whole ends WantsLiteral o = second_open first second L M a t b rest reads whole ends WantsLiteral o
lift_second first second L M R Q r a t b rest reads whole ends (Bad left) o = second_wrong first L M R Q r a t b rest reads whole left o

chain_stopped : {A C : Type 0} (first : NoCommand) (second : A → NoCommand) (L : A → List ℕ → Type 0) (M : A → C → List ℕ → Type 0) (R : List ℕ → Result (A × List ℕ) NoCommand)
    (Q : A → List ℕ → Result (C × List ℕ) NoCommand) → IsReader first L R → ((a : A) → IsReader (second a) (M a) (Q a))
    → ((a : A) (t : List ℕ) → L a t → stop_of first t ≡ second a)
    → (b : List ℕ) (e : NoCommand) → AreOctets b → chained R Q b ≡ Err e → Stopped (Chain L M) (chained R Q) first b e
chain_stopped first second L M R Q r q ends b e are h =
    elim (bind_err (R b) (λ x. Q x.0 x.1) e h) [
      | inl f ↦ lift_first first L M R Q (λ a. (q a).some) b e (r.stopped b e are f)
      | inr f ↦
          let g = r.found b f.0.0 f.0.1 are f.1 in
          lift_second first (second f.0.0) L M R Q r f.0.0 g.0 b f.0.1 g.1 g.2 (ends f.0.0 g.0 g.1) e
          ((q f.0.0).stopped f.0.1 e (octets_behind b g.0 f.0.1 are g.2) f.2)
    ]

chain_some : {A C : Type 0} (L : A → List ℕ → Type 0) (M : A → C → List ℕ → Type 0) → (a : A) × (t : List ℕ) × L a t → ((a : A) → (c : C) × (t : List ℕ) × M a c t)
    → (c : C) × (t : List ℕ) × Chain L M c t
chain_some L M x some =
    let y = some x.0 in
    (y.0, x.1 ++ y.1, (x.0, record { front = x.1; back = y.1; whole = refl; first = x.2; second = y.2 }))

-- two readers one after another read the texts of both
pub chain_reader : {A C : Type 0} (first : NoCommand) (second : A → NoCommand) (L : A → List ℕ → Type 0) (M : A → C → List ℕ → Type 0) (R : List ℕ → Result (A × List ℕ) NoCommand)
    (Q : A → List ℕ → Result (C × List ℕ) NoCommand) → IsReader first L R → ((a : A) → IsReader (second a) (M a) (Q a))
    → ((a : A) (t : List ℕ) → L a t → stop_of first t ≡ second a) → IsReader first (Chain L M) (chained R Q)
chain_reader first second L M R Q r q ends = record {
  whole = chain_whole first second L M R Q r q;
  short = chain_short first second L M R Q r q ends;
  found = chain_found first second L M R Q r q;
  stopped = chain_stopped first second L M R Q r q ends;
  some = chain_some L M r.some (λ a. (q a).some);
}

-- ---- another value

-- what is made of a value and the text
abbrev pub Viewed : {A C : Type 0} → (A → List ℕ → C) → (A → List ℕ → Type 0) → C → List ℕ → Type 0
Viewed {A = A} g L c t = (a : A) × L a t × (c ≡ g a (plain_octets t))

abbrev pub viewed : {A C : Type 0} → (A → List ℕ → C) → (List ℕ → Result (A × List ℕ) NoCommand) → List ℕ → Result (C × List ℕ) NoCommand
viewed g R b = R b >>= λ x. Ok (g x.0 b, x.1)

view_open : {A C : Type 0} (first : NoCommand) (g : A → List ℕ → C) (L : A → List ℕ → Type 0) (b : List ℕ) (e : NoCommand) → IsOpen L first b e → IsOpen (Viewed g L) first b e
view_open first g L b e o = record {
  value = g o.value (plain_octets (o.text ++ o.more));
  text = o.text;
  more = o.more;
  reads = (o.value, o.reads, refl);
  proper = o.proper;
  octets = o.octets;
  stop = o.stop;
}

view_wrong : {A C : Type 0} (g : A → List ℕ → C) (L : A → List ℕ → Type 0) (R : List ℕ → Result (A × List ℕ) NoCommand) (b : List ℕ) (left : ℕ)
    → IsWrong L R b left → IsWrong (Viewed g L) (viewed g R) b left
view_wrong {A} g L R b left o = record {
  value = g o.value (plain_octets (o.text ++ o.more));
  text = o.text;
  more = o.more;
  octet = o.octet;
  rest = o.rest;
  reads = (o.value, o.reads, refl);
  proper = o.proper;
  whole = o.whole;
  left_is = o.left_is;
  stays = λ r. let b = plain_octets o.text ++ o.octet ∷ r in ap (λ (q : Result (A × List ℕ) NoCommand). q >>= λ x. Ok (g x.0 b, x.1)) (o.stays r);
}

view_stopped : {A C : Type 0} (first : NoCommand) (g : A → List ℕ → C) (L : A → List ℕ → Type 0) (R : List ℕ → Result (A × List ℕ) NoCommand) (b : List ℕ) (e : NoCommand)
    → Stopped L R first b e → Stopped (Viewed g L) (viewed g R) first b e
view_stopped first g L R b NeedMore o = view_open first g L b NeedMore o
view_stopped first g L R b WantsLiteral o = view_open first g L b WantsLiteral o
view_stopped first g L R b (Bad left) o = view_wrong g L R b left o

no_stop : {A C : Type 0} (x : A) (e : NoCommand) → Ok x ≡ Err e → C
no_stop x e h = absurd cc

-- a reader whose value is made of what was read reads the same texts
pub view_reader : {A C : Type 0} (first : NoCommand) (g : A → List ℕ → C) (L : A → List ℕ → Type 0) (R : List ℕ → Result (A × List ℕ) NoCommand)
    → IsReader first L R → ((a : A) (t rest : List ℕ) → L a t → g a (plain_octets t ++ rest) ≡ g a (plain_octets t)) → IsReader first (Viewed g L) (viewed g R)
view_reader {A} {C} first g L R r alone = record {
  whole = λ c t rest h.
      ap (λ (q : Result (A × List ℕ) NoCommand). q >>= λ x. Ok (g x.0 (plain_octets t ++ rest), x.1)) (r.whole h.0 t rest h.1)
      ∙ ap (λ (d : C). Ok (d, rest)) (alone h.0 t rest h.1 ∙ sym h.2);
  short = λ c t more h proper.
      ap (λ (q : Result (A × List ℕ) NoCommand). q >>= λ x. Ok (g x.0 (plain_octets t), x.1)) (r.short h.0 t more h.1 proper);
  found = λ b c rest are e.
      let x = bind_ok (R b) (λ x. Ok (g x.0 b, x.1)) (c, rest) e in
      let same : g x.0.0 b ≡ c = ok_value (g x.0.0 b) c x.0.1 rest x.2 in
      let left : x.0.1 ≡ rest = ok_rest (g x.0.0 b) c x.0.1 rest x.2 in
      let f = r.found b x.0.0 x.0.1 are x.1 in
      (f.0, (x.0.0, f.1, sym same ∙ ap (g x.0.0) f.2 ∙ alone x.0.0 f.0 x.0.1 f.1), f.2 ∙ ap (λ (u : List ℕ). plain_octets f.0 ++ u) left);
  stopped = λ b e are h.
      elim (bind_err (R b) (λ x. Ok (g x.0 b, x.1)) e h) [
        | inl f ↦ view_stopped first g L R b e (r.stopped b e are f)
        | inr f ↦ no_stop {A = C × List ℕ} (g f.0.0 b, f.0.1) e f.2
      ];
  some = let x = r.some in (g x.0 (plain_octets x.1), x.1, (x.0, x.2, refl));
}
  where
    ok_value : {X Y : Type 0} (x z : X) (y w : Y) → ◌≡◌ {A = Result (X × Y) NoCommand} (Ok (x, y)) (Ok (z, w)) → x ≡ z
    ok_value {X = X} {Y = Y} x z y w e = let p : ◌≡◌ {A = X × Y} (x, y) (z, w) = cc in ap (λ (q : X × Y). q.0) p

    ok_rest : {X Y : Type 0} (x z : X) (y w : Y) → ◌≡◌ {A = Result (X × Y) NoCommand} (Ok (x, y)) (Ok (z, w)) → y ≡ w
    ok_rest {X = X} {Y = Y} x z y w e = let p : ◌≡◌ {A = X × Y} (x, y) (z, w) = cc in ap (λ (q : X × Y). q.1) p

-- ---- another language

same_open : {T : Type 0} (first : NoCommand) (L M : T → List ℕ → Type 0) (b : List ℕ) (e : NoCommand) → ((v : T) (t : List ℕ) → L v t → M v t) → IsOpen L first b e
    → IsOpen M first b e
same_open first L M b e f o = record {
  value = o.value;
  text = o.text;
  more = o.more;
  reads = f o.value (o.text ++ o.more) o.reads;
  proper = o.proper;
  octets = o.octets;
  stop = o.stop;
}

same_wrong : {T : Type 0} (L M : T → List ℕ → Type 0) (R : List ℕ → Result (T × List ℕ) NoCommand) (b : List ℕ) (left : ℕ) → ((v : T) (t : List ℕ) → L v t → M v t)
    → IsWrong L R b left → IsWrong M R b left
same_wrong L M R b left f o = record {
  value = o.value;
  text = o.text;
  more = o.more;
  octet = o.octet;
  rest = o.rest;
  reads = f o.value (o.text ++ o.more) o.reads;
  proper = o.proper;
  whole = o.whole;
  left_is = o.left_is;
  stays = o.stays;
}

same_stopped : {T : Type 0} (first : NoCommand) (L M : T → List ℕ → Type 0) (R : List ℕ → Result (T × List ℕ) NoCommand) (b : List ℕ) (e : NoCommand)
    → ((v : T) (t : List ℕ) → L v t → M v t) → Stopped L R first b e → Stopped M R first b e
same_stopped first L M R b NeedMore f o = same_open first L M b NeedMore f o
same_stopped first L M R b WantsLiteral f o = same_open first L M b WantsLiteral f o
same_stopped first L M R b (Bad left) f o = same_wrong L M R b left f o

-- a reader of a language reads every language of the same texts
pub same_reader : {T : Type 0} (first : NoCommand) (L M : T → List ℕ → Type 0) (R : List ℕ → Result (T × List ℕ) NoCommand)
    → ((v : T) (t : List ℕ) → L v t → M v t) → ((v : T) (t : List ℕ) → M v t → L v t) → IsReader first L R → IsReader first M R
same_reader first L M R f g r = record {
  whole = λ v t rest h. r.whole v t rest (g v t h);
  short = λ v t more h proper. r.short v t more (g v (t ++ more) h) proper;
  found = λ b v rest are e. let x = r.found b v rest are e in (x.0, f v x.0 x.1, x.2);
  stopped = λ b e are h. same_stopped first L M R b e f (r.stopped b e are h);
  some = let x = r.some in (x.0, x.1, f x.0 x.1 x.2);
}
