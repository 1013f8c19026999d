-- Each event that is allowed comes to moves that fit, and these keep the order of the active builds.
use Rattle.std.proofs.Common.{◌≡◌, ◌⊎◌, inl, inr, ℕ, ◌+◌, ◌<◌, ◌≤◌, Bool, true, false, cond, not, ◌&&◌, ◌||◌, List, [], ◌∷◌, ◌++◌, length, Option, None, Some, is_none, is_some, Ok, Err, refl, sym, ap, subst, ◌∙◌, arith, nat_eq, nat_le, nat_lt, eqb-true, ltb-true, slice_set, length-append}
use Rattle.std.specs.Prelude.{IsSome, codes}
use Rattle.std.specs.Map.{lookup}
use Rattle.std.proofs.Math.ListN.{get_or-append}
use Rattle.std.proofs.Math.Seq.{get_or-append_seam}
use Rattle.std.proofs.lemmas.List.{get_or-set_same, get_or-set_other, length-set}
use Rattle.std.proofs.lemmas.Bool.{false≢true}
use Rattle.esb_wire.specs.declared.value.Packet.{Packet}
use Rattle.esb_flags.specs.declared.options.Options.{Options}
use Rattle.esb_flags.specs.declared.command.Command.{Command}
use Rattle.esb_flags.specs.declared.command.Command.TheVariants as command
use Rattle.esb_flags.specs.Fields.{Answer as Asked}
use Rattle.esb_flags.specs.Command.{asked}
use Rattle.esb_ask.specs.declared.question.Question.{Question}
use Rattle.esb_ask.specs.declared.answer.Answer.{Answer}
use Rattle.esb_ask.specs.declared.task.Task.{Task}
use Rattle.esb_ask.specs.declared.product.Product.{Product}
use Rattle.esb_ask.specs.declared.outcome.Failures.{Failures}
use Rattle.esb_ask.specs.declared.outcome.OutFile.{OutFile}
use Rattle.esb_ask.specs.declared.outcome.Outcome.{Outcome}
use Rattle.esb_ask.specs.declared.outcome.Outcome.TheVariants as outcome
use Rattle.esb_ask.specs.Table.{fits, kept}
use Rattle.esb_ask.specs.Tasks.{product_fits}
use Rattle.esb_core.specs.declared.event.Event.{Event}
use Rattle.esb_core.specs.declared.event.Event.TheVariants as event
use Rattle.esb_core.specs.State.{Building, State, build_at, no_build}
use Rattle.esb_core.specs.Moves.{Move, make, remove, begin, join, owe, keep, assign, settle, write, retire, close, take, Standing, puts, most_builds, most_contexts, most_waiting, key_of, options_of, is_full, first_of, too_many, refusal, unknown, crowded, done, begun, joined_or_begun, closed, ended, canceled_or, canceled, disposed, effect, refused_or, requested, added_or, kept_unless, opens, opened_unless, settled, settled_unless}
use Rattle.esb_core.specs.Sizes.{named, opened, with_task, is_overfull, has_too_many, too_large}
use Rattle.esb_core.specs.Steps
use Rattle.esb_core.specs.Steps.{moved, all_moved, fresh, joined, answered, tasked, ended_by, written_by, closed_by, without, active_of, settled_for, met, standing, moves}
use Rattle.esb_core.specs.Allowed.{allowed, has_begun, has_task, is_writer, may_fail, may_settle}
use Rattle.esb_core.specs.Order.{IsActive, IsOrdered, IsSane, MayClose}
use Rattle.esb_core.proofs.Claims.{both_parts}
use Rattle.esb_core.proofs.Each.{each-set, each-push}
use Rattle.esb_core.proofs.Lookups.{self, some-or, not_none, lookup-found, lookup-last, lookup-split, without-same, without-other, without-found}

-- ---- moves that fit

-- a build that is settled so puts no files
abbrev pub PutsNone : Building → Outcome → Type 0
PutsNone b o = b.options.write ≡ true → (files : List OutFile) → o ≡ outcome.Files files → ⊥

pub puts-none : (b : Building) (o : Outcome) → puts b.options.write o ≡ false → PutsNone b o
puts-none b o none w files is = false≢true (sym none ∙ ap (λ (p : Outcome). puts b.options.write p) is ∙ w)

-- what a first outcome of a build comes to, by whether it puts files
pub settled-is : (at : Standing) (n : ℕ) (o : Outcome) → settled at n o ≡ cond (puts at.writes o) (settle n o ∷ []) (ended at.key at.stays n o)
settled-is at n (outcome.Files files) = by at.writes
  where
    by : (t : Bool) → settle n (outcome.Files files) ∷ cond t [] (closed at.key at.stays n) ≡ cond t (settle n (outcome.Files files) ∷ []) (settle n (outcome.Files files) ∷ closed at.key at.stays n)
    by true = refl
    by false = refl
settled-is at n (outcome.Errors messages) = refl
settled-is at n outcome.Canceled = refl
settled-is at n outcome.Memory = refl

-- the build has begun and isn't settled
pub record IsUnsettled (s : State) (n : ℕ) : Type 0 where
  pub begun : n < length s.builds
  pub unsettled : (build_at s.builds n).outcome ≡ None

-- the build has begun and isn't closed
pub record IsUnclosed (s : State) (n : ℕ) : Type 0 where
  pub begun : n < length s.builds
  pub unclosed : (build_at s.builds n).closed ≡ false

-- the build is settled and isn't closed, and a worker writes its files
pub record IsUnwritten (s : State) (n : ℕ) : Type 0 where
  pub begun : n < length s.builds
  pub taken : IsSome (build_at s.builds n).writer
  pub settled : IsSome (build_at s.builds n).outcome
  pub unclosed : (build_at s.builds n).closed ≡ false

-- it isn't settled, and the task doesn't make its files too many
pub record IsRoom (s : State) (n : ℕ) (t : Task) : Type 0 where
  pub begun : n < length s.builds
  pub unsettled : (build_at s.builds n).outcome ≡ None
  pub few : has_too_many (with_task (build_at s.builds n).tasks t) ≡ false

-- the build is the next, in a context that has none
pub record IsNext (s : State) (n key : ℕ) : Type 0 where
  pub number : n ≡ length s.builds
  pub few : n < most_builds
  pub idle : active_of s key ≡ None
  pub inside : IsSome (lookup (nat_eq key) s.contexts)

abbrev pub Fits : State → Move → Type 0
Fits s (make key options) = lookup (nat_eq key) s.contexts ≡ None
Fits s (remove key) = active_of s key ≡ None
Fits s (begin n key options) = IsNext s n key
Fits s (retire key) = IsSome (active_of s key)
Fits s (join n id result) = IsUnclosed s n
Fits s (owe o) = Unit {0}
Fits s (keep n q a) = IsUnsettled s n
Fits s (assign n t) = IsRoom s n t
Fits s (settle n o) = IsUnsettled s n
Fits s (write n f) = IsUnwritten s n
Fits s (close key n) = MayClose s key n
Fits s take = 0 < length s.owed

abbrev pub AllFit : State → List Move → Type 0
AllFit s [] = Unit {0}
AllFit s (m ∷ ms) = Fits s m × AllFit (moved s m) ms

-- ---- the order of the active builds

some-stays : {X : Type 0} (p : ℕ → Bool) (xs ys : List (ℕ × X)) → IsSome (lookup p xs) → IsSome (lookup p (xs ++ ys))
some-stays p xs ys h = by (lookup p xs) refl h
  where
    by : (o : Option _) → lookup p xs ≡ o → IsSome o → IsSome (lookup p (xs ++ ys))
    by None is h = absurd (false≢true h)
    by (Some x) is h = ap is_some (lookup-found p xs ys x is)

is_some-of : {X : Type 0} (o : Option X) (x : X) → o ≡ Some x → IsSome o
is_some-of o x e = ap is_some e

-- the builds keep their keys, and which are closed
same-builds : (s t : State) → t.contexts ≡ s.contexts → t.active ≡ s.active → length t.builds ≡ length s.builds → ((m : ℕ) → (build_at t.builds m).closed ≡ (build_at s.builds m).closed)
    → ((m : ℕ) → (build_at t.builds m).key ≡ (build_at s.builds m).key) → ((m : ℕ) → IsSane (build_at t.builds m)) → IsOrdered s → IsOrdered t
same-builds s t contexts active long closed key sane h = record {
  active = λ k n e.
      let a = h.active k n (ap (λ (xs : List (ℕ × ℕ)). lookup (nat_eq k) xs) (sym active) ∙ e) in
      record { begun = let lt = a.begun in omega (arith, lt, long); unclosed = closed n ∙ a.unclosed; its_key = key n ∙ a.its_key };
  known = λ n lt open_still.
      ap (λ (k : ℕ). lookup (nat_eq k) t.active) (key n) ∙ ap (λ (xs : List (ℕ × ℕ)). lookup (nat_eq (build_at s.builds n).key) xs) active
      ∙ h.known n (omega (arith, lt, long)) (sym (closed n) ∙ open_still);
  inside = λ k n e.
      subst (λ (xs : List (ℕ × Options)). IsSome (lookup (nat_eq k) xs)) (sym contexts) (h.inside k n (ap (λ (xs : List (ℕ × ℕ)). lookup (nat_eq k) xs) (sym active) ∙ e));
  sane = sane;
}

-- the same contexts and builds
pub ordered-as : (s t : State) → t.contexts ≡ s.contexts → t.active ≡ s.active → t.builds ≡ s.builds → IsOrdered s → IsOrdered t
ordered-as s t contexts active builds h =
    same-builds s t contexts active (ap length builds) (λ m. ap (λ (bs : List Building). (build_at bs m).closed) builds) (λ m. ap (λ (bs : List Building). (build_at bs m).key) builds)
    (λ m. subst (λ (bs : List Building). IsSane (build_at bs m)) (sym builds) (h.sane m)) h

pub set-at : (bs : List Building) (n : ℕ) (b : Building) (m : ℕ) → n < length bs → build_at (slice_set bs n b) m ≡ cond (nat_eq n m) b (build_at bs m)
set-at bs n b m lt = by (nat_eq n m) refl
  where
    apart : nat_eq n m ≡ false → m ≡ n → ⊥
    apart e same = false≢true (sym e ∙ ap (λ k. nat_eq n k) same ∙ self n)

    by : (t : Bool) → nat_eq n m ≡ t → build_at (slice_set bs n b) m ≡ cond t b (build_at bs m)
    by true e = ap (λ k. build_at (slice_set bs n b) k) (sym (eqb-true n m e)) ∙ get_or-set_same bs n b no_build lt
    by false e = get_or-set_other bs n m b no_build (apart e)

set-same : {X : Type 0} (f : Building → X) (bs : List Building) (n : ℕ) (b : Building) (m : ℕ) → n < length bs → f b ≡ f (build_at bs n) → f (build_at (slice_set bs n b) m) ≡ f (build_at bs m)
set-same f bs n b m lt same = ap f (set-at bs n b m lt) ∙ by (nat_eq n m) refl
  where
    by : (t : Bool) → nat_eq n m ≡ t → f (cond t b (build_at bs m)) ≡ f (build_at bs m)
    by true e = same ∙ ap (λ k. f (build_at bs k)) (eqb-true n m e)
    by false e = refl

-- a build changes, and keeps its key, and whether it is closed
pub changed-ordered : (s : State) (n : ℕ) (b : Building) → n < length s.builds → b.closed ≡ (build_at s.builds n).closed → b.key ≡ (build_at s.builds n).key → IsSane b → IsOrdered s → IsOrdered (Steps.changed s n b)
changed-ordered s n b lt closed key sane h =
    same-builds s (Steps.changed s n b) refl refl (length-set s.builds n b) (λ m. set-same (λ c. c.closed) s.builds n b m lt closed) (λ m. set-same (λ c. c.key) s.builds n b m lt key)
    (each-set (λ k c. IsSane c) s.builds n b h.sane sane) h

below_or_last : (n m : ℕ) → n < m + 1 → (n < m) ⊎ (n ≡ m)
below_or_last n m lt = by (nat_lt n m) refl
  where
    past : nat_lt n m ≡ false → m ≤ n
    past e = grind (arith)

    by : (t : Bool) → nat_lt n m ≡ t → (n < m) ⊎ (n ≡ m)
    by true e = inl (ltb-true n m e)
    by false e = let h = past e in inr (omega (arith, h, lt))

module _ (s : State) (h : IsOrdered s) (n key : ℕ) (options : Options) (f : IsNext s n key) where
  abbrev t : State
  t = moved s (begin n key options)

  abbrev b : Building
  b = fresh key options

  longer : length t.builds ≡ length s.builds + 1
  longer = length-append s.builds (b ∷ [])

  before : (m : ℕ) → m < length s.builds → build_at t.builds m ≡ build_at s.builds m
  before m lt = get_or-append s.builds (b ∷ []) no_build m lt

  last : (m : ℕ) → m ≡ n → build_at t.builds m ≡ b
  last m is = ap (λ k. build_at t.builds k) (is ∙ f.number) ∙ get_or-append_seam s.builds b [] no_build

  old-active : (k m : ℕ) → active_of s k ≡ Some m → IsActive t k m
  old-active k m e =
      let a = h.active k m e in
      let same = before m a.begun in
      record { begun = let lt = a.begun in omega (arith, lt, longer); unclosed = ap (λ (c : Building). c.closed) same ∙ a.unclosed; its_key = ap (λ (c : Building). c.key) same ∙ a.its_key }

  new-active : (k m : ℕ) → k ≡ key → n ≡ m → IsActive t k m
  new-active k m same number =
      let own = last m (sym number) in
      record { begun = let is = f.number in omega (arith, number, is, longer); unclosed = ap (λ (c : Building). c.closed) own; its_key = ap (λ (c : Building). c.key) own ∙ sym same }

  begins-known : (m : ℕ) → (m < length s.builds) ⊎ (m ≡ length s.builds) → (build_at t.builds m).closed ≡ false → active_of t (build_at t.builds m).key ≡ Some m
  begins-known m (inl lt) none =
      let same = before m lt in
      ap (λ (c : Building). lookup (nat_eq c.key) t.active) same
      ∙ lookup-found (nat_eq (build_at s.builds m).key) s.active ((key, n) ∷ []) m (h.known m lt (sym (ap (λ (c : Building). c.closed) same) ∙ none))
  begins-known m (inr is) none =
      ap (λ (c : Building). lookup (nat_eq c.key) t.active) (last m (is ∙ sym f.number)) ∙ lookup-last key s.active n f.idle ∙ ap Some (f.number ∙ sym is)

  begins-ordered : IsOrdered t
  begins-ordered = record {
    active = λ k m e. lookup-split k key s.active n m e (old-active k m) (new-active k m);
    known = λ m lt none. begins-known m (below_or_last m (length s.builds) (omega (arith, lt, longer))) none;
    inside = λ k m e. lookup-split k key s.active n m e (h.inside k m) (λ same number. subst (λ (j : ℕ). IsSome (lookup (nat_eq j) s.contexts)) (sym same) f.inside);
    sane = each-push (λ k c. IsSane c) s.builds b h.sane (λ k none. record { open_still = λ e. refl; unwritten = λ e. refl; writing = λ w e. refl; put = λ shut w files is. absurd (false≢true shut) });
  }

module _ (s : State) (h : IsOrdered s) (key n : ℕ) (over : MayClose s key n) where
  abbrev u : State
  u = moved s (close key n)

  f : IsActive s key n
  f = over.active

  abbrev shut : Building
  shut = closed_by (build_at s.builds n)

  other-at : (m : ℕ) → nat_eq n m ≡ false → build_at u.builds m ≡ build_at s.builds m
  other-at m apart = set-at s.builds n shut m f.begun ∙ ap (λ t. cond t shut (build_at s.builds m)) apart

  -- a build with another key is another one
  other-key : (m k : ℕ) → (build_at s.builds m).key ≡ k → nat_eq key k ≡ false → nat_eq n m ≡ false
  other-key m k its apart = by (nat_eq n m) refl
    where
      by : (t : Bool) → nat_eq n m ≡ t → t ≡ false
      by false is = refl
      by true is =
          let same : key ≡ k = sym f.its_key ∙ ap (λ (j : ℕ). (build_at s.builds j).key) (eqb-true n m is) ∙ its in
          absurd (false≢true (sym apart ∙ ap (λ (j : ℕ). nat_eq key j) (sym same) ∙ self key))

  closes-active : (k m : ℕ) → nat_eq key k ≡ false → active_of s k ≡ Some m → IsActive u k m
  closes-active k m apart e =
      let a = h.active k m e in
      let same = other-at m (other-key m k a.its_key apart) in
      record {
        begun = let lt = a.begun in let long = length-set s.builds n shut in omega (arith, lt, long);
        unclosed = ap (λ (c : Building). c.closed) same ∙ a.unclosed;
        its_key = ap (λ (c : Building). c.key) same ∙ a.its_key;
      }

  -- a build that is another and isn't closed has another key
  other-context : (m : ℕ) → m < length s.builds → (build_at s.builds m).closed ≡ false → nat_eq n m ≡ false → nat_eq key (build_at s.builds m).key ≡ false
  other-context m lt none apart = by (nat_eq key (build_at s.builds m).key) refl
    where
      by : (t : Bool) → nat_eq key (build_at s.builds m).key ≡ t → t ≡ false
      by false is = refl
      by true is =
          let mine : active_of s key ≡ Some n = ap (λ (j : ℕ). active_of s j) (sym f.its_key) ∙ h.known n f.begun f.unclosed in
          let its : active_of s key ≡ Some m = ap (λ (j : ℕ). active_of s j) (eqb-true key (build_at s.builds m).key is) ∙ h.known m lt none in
          let both : Some n ≡ Some m = sym mine ∙ its in
          let same : n ≡ m = cc in
          absurd (false≢true (sym apart ∙ ap (λ (j : ℕ). nat_eq n j) (sym same) ∙ self n))

  closes-known : (m : ℕ) → m < length s.builds → (t : Bool) → nat_eq n m ≡ t → (build_at u.builds m).closed ≡ false → active_of u (build_at u.builds m).key ≡ Some m
  closes-known m lt true is none =
      let own : build_at u.builds m ≡ shut = set-at s.builds n shut m f.begun ∙ ap (λ t. cond t shut (build_at s.builds m)) is in
      absurd (false≢true (sym none ∙ ap (λ (c : Building). c.closed) own))
  closes-known m lt false is none =
      let same = other-at m is in
      let open_still : (build_at s.builds m).closed ≡ false = sym (ap (λ (c : Building). c.closed) same) ∙ none in
      ap (λ (c : Building). lookup (nat_eq c.key) u.active) same ∙ without-other key (build_at s.builds m).key s.active (other-context m lt open_still is) ∙ h.known m lt open_still

  closes-ordered : IsOrdered u
  closes-ordered = record {
    active = λ k m e. without-found key k s.active m e (closes-active k m);
    known = λ m lt none. closes-known m (let long = length-set s.builds n shut in omega (arith, lt, long)) (nat_eq n m) refl none;
    inside = λ k m e. without-found key k s.active m e (λ apart is. h.inside k m is);
    sane = each-set (λ k c. IsSane c) s.builds n shut h.sane (record {
      open_still = λ none. absurd (false≢true (sym (ap is_some none) ∙ over.settled));
      unwritten = λ none. over.free;
      writing = λ w some. not_none w (sym some ∙ over.free);
      put = λ e w files is. over.put w files is;
    });
  }

pub moved-ordered : (s : State) (m : Move) → Fits s m → IsOrdered s → IsOrdered (moved s m)
moved-ordered s (make key options) f h = record { active = λ k n e. let a = h.active k n e in record { begun = a.begun; unclosed = a.unclosed; its_key = a.its_key }; known = h.known; inside = λ k n e. some-stays (nat_eq k) s.contexts ((key, options) ∷ []) (h.inside k n e); sane = h.sane }
moved-ordered s (remove key) f h = record {
  active = λ k n e. let a = h.active k n e in record { begun = a.begun; unclosed = a.unclosed; its_key = a.its_key };
  known = h.known;
  inside = λ k n e. by k n e (nat_eq key k) refl;
  sane = h.sane;
}
  where
    by : (k n : ℕ) → active_of s k ≡ Some n → (t : Bool) → nat_eq key k ≡ t → IsSome (lookup (nat_eq k) (without key s.contexts))
    by k n e true same = not_none n (sym e ∙ ap (λ (j : ℕ). active_of s j) (sym (eqb-true key k same)) ∙ f)
    by k n e false apart = subst (λ (o : Option Options). IsSome o) (sym (without-other key k s.contexts apart)) (h.inside k n e)
moved-ordered s (retire key) f h = same-builds s (moved s (retire key)) refl refl refl (λ m. refl) (λ m. refl) h.sane h
moved-ordered s (begin n key options) f h = begins-ordered s h n key options f
moved-ordered s (join n id result) f h = changed-ordered s n (joined (build_at s.builds n) id result) f.begun refl refl (let k = h.sane n in record { open_still = k.open_still; unwritten = k.unwritten; writing = k.writing; put = k.put }) h
moved-ordered s (owe o) f h = same-builds s (moved s (owe o)) refl refl refl (λ m. refl) (λ m. refl) h.sane h
moved-ordered s (keep n q a) f h = changed-ordered s n (answered (build_at s.builds n) q a) f.begun refl refl (let k = h.sane n in record { open_still = k.open_still; unwritten = k.unwritten; writing = k.writing; put = k.put }) h
moved-ordered s (assign n t) f h = changed-ordered s n (tasked (build_at s.builds n) t) f.begun refl refl (let k = h.sane n in record { open_still = k.open_still; unwritten = k.unwritten; writing = k.writing; put = k.put }) h
moved-ordered s (settle n o) f h =
    let k = h.sane n in
    let unclosed = k.open_still f.unsettled in
    changed-ordered s n (ended_by (build_at s.builds n) o) f.begun refl refl (record { open_still = λ e. unclosed; unwritten = λ e. k.unwritten f.unsettled; writing = λ w e. unclosed; put = λ shut w files is. absurd (false≢true (sym unclosed ∙ shut)) }) h
moved-ordered s (write n g) f h =
    let unclosed = f.unclosed in
    changed-ordered s n (written_by (build_at s.builds n) g) f.begun refl refl (record { open_still = λ e. unclosed; unwritten = λ e. refl; writing = λ w e. unclosed; put = λ shut w files is. refl }) h
moved-ordered s (close key n) f h = closes-ordered s h key n f
moved-ordered s take f h = same-builds s (moved s take) refl refl refl (λ m. refl) (λ m. refl) h.sane h

pub all_moved-ordered : (s : State) (ms : List Move) → AllFit s ms → IsOrdered s → IsOrdered (all_moved s ms)
all_moved-ordered s [] f h = h
all_moved-ordered s (m ∷ ms) f h = all_moved-ordered (moved s m) ms f.1 (moved-ordered s m f.0 h)

-- ---- the moves of an event

-- where a command isn't refused, no reason holds
pub accepts : (holds : Bool) (text : List ℕ) (more : List (Bool × List ℕ)) → first_of ((holds, text) ∷ more) ≡ None → (holds ≡ false) × (first_of more ≡ None)
accepts true text more e = not_none text e
accepts false text more e = (refl, e)

pub lasts : (holds : Bool) (text : List ℕ) → first_of ((holds, text) ∷ []) ≡ None → holds ≡ false
lasts holds text e = (accepts holds text [] e).0

pub not-full : (n : ℕ) → nat_le most_builds n ≡ false → n < most_builds
not-full n e = grind (arith)

left-false : (a b : Bool) → (a || b) ≡ false → a ≡ false
left-false true b e = absurd (false≢true (sym e))
left-false false b e = refl

there : {X : Type 0} (o : Option X) → is_none o ≡ false → IsSome o
there None e = absurd (false≢true (sym e))
there (Some x) e = refl

pub second : (a b : Bool) → a ≡ true → (a && b) ≡ false → b ≡ false
second a b is e = sym (ap (λ t. t && b) is) ∙ e

module _ (s : State) (h : IsOrdered s) where
  -- the next build of a context that has none
  pub begins-fit : (id key : ℕ) (options : Options) → IsNext s (length s.builds) key → AllFit s (begun (met s key) id key options)
  begins-fit id key options next = (
    next,
    (
      record {
        begun = let long = length-append s.builds (fresh key options ∷ []) in omega (arith, long);
        unclosed = ap (λ (b : Building). b.closed) (get_or-append_seam s.builds (fresh key options) [] no_build);
      },
      tt,
    ),
  )

  no_active : (key : ℕ) → lookup (nat_eq key) s.contexts ≡ None → active_of s key ≡ None
  no_active key none = by (active_of s key) refl
    where
      by : (o : Option ℕ) → active_of s key ≡ o → o ≡ None
      by None is = refl
      by (Some n) is = absurd (false≢true (sym (ap is_some none) ∙ h.inside key n is))

  pub build-fits : (id key : ℕ) (options : Options) (stays : Bool) → lookup (nat_eq key) s.contexts ≡ None → (stays ≡ false → length s.builds < most_builds)
      → AllFit s (make key options ∷ cond stays (done id) (begun (met s key) id key options))
  build-fits id key options true none few = (none, (tt, tt))
  build-fits id key options false none few = (
    none,
    (
      record {
        number = refl;
        few = few refl;
        idle = no_active key none;
        inside = is_some-of _ options (lookup-last key s.contexts options none);
      },
      (
        record {
          begun = let long = length-append s.builds (fresh key options ∷ []) in omega (arith, long);
          unclosed = ap (λ (b : Building). b.closed) (get_or-append_seam s.builds (fresh key options) [] no_build);
        },
        tt,
      ),
    ),
  )

  rebuild-fits : (id key : ℕ) (o : Option ℕ) → active_of s key ≡ o → IsSome (lookup (nat_eq key) s.contexts) → (o ≡ None → length s.builds < most_builds) → AllFit s (joined_or_begun (met s key) id key o)
  rebuild-fits id key (Some n) is some few = let a = h.active key n is in (record { begun = a.begun; unclosed = a.unclosed }, tt)
  rebuild-fits id key None is some few = begins-fit id key (options_of (met s key).context) (record { number = refl; few = few refl; idle = is; inside = some })

  -- a build that isn't settled can be closed once it is settled
  pub settled-over : (key n : ℕ) (o : Outcome) → IsActive s key n → (build_at s.builds n).outcome ≡ None → PutsNone (build_at s.builds n) o → MayClose (moved s (settle n o)) key n
  settled-over key n o a none puts =
      let own : build_at (slice_set s.builds n (ended_by (build_at s.builds n) o)) n ≡ ended_by (build_at s.builds n) o = get_or-set_same s.builds n (ended_by (build_at s.builds n) o) no_build a.begun in
      let k = h.sane n in
      record {
        active = record {
          begun = let long = length-set s.builds n (ended_by (build_at s.builds n) o) in let lt = a.begun in omega (arith, long, lt);
          unclosed = ap (λ (b : Building). b.closed) own ∙ a.unclosed;
          its_key = ap (λ (b : Building). b.key) own ∙ a.its_key;
        };
        settled = ap (λ (b : Building). is_some b.outcome) own;
        free = ap (λ (b : Building). b.writer) own ∙ k.unwritten none;
        put = λ w files is.
            let same : Some o ≡ Some (outcome.Files files) = sym (ap (λ (b : Building). b.outcome) own) ∙ is in
            absurd (puts (sym (ap (λ (b : Building). b.options.write) own) ∙ w) files cc);
      }

  pub ended-fits : (key n : ℕ) (stays : Bool) (o : Outcome) (more : List Move) → IsActive s key n → (build_at s.builds n).outcome ≡ None → PutsNone (build_at s.builds n) o → ((t : State) → t.active ≡ without key s.active → AllFit t more) → AllFit s (ended key stays n o ++ more)
  ended-fits key n true o more a none puts rest = (record { begun = a.begun; unsettled = none }, (settled-over key n o a none puts, rest (moved (moved s (settle n o)) (close key n)) refl))
  ended-fits key n false o more a none puts rest =
      (record { begun = a.begun; unsettled = none }, (settled-over key n o a none puts, (without-same key s.active, rest (moved (moved (moved s (settle n o)) (close key n)) (remove key)) refl)))

  pub none_or : (o : Option Outcome) → is_some o ≡ false → o ≡ None
  none_or None e = refl
  none_or (Some x) e = absurd (false≢true (sym e))

  -- a build that is canceled, or one that the request waits for
  pub cancel-fits : (id key : ℕ) (stays : Bool) (o : Option ℕ) (settled_is : Bool) (more : List Move) → active_of s key ≡ o → settled_for s.builds o ≡ settled_is → ((t : State) → t.active ≡ without key s.active → AllFit t more) → (o ≡ None → AllFit s more)
      → AllFit s (canceled (record (met s key) { settled = settled_is }) id key stays o more)
  cancel-fits id key stays None settled_is more is flag rest alone = alone refl
  cancel-fits id key stays (Some n) true more is flag rest alone = let a = h.active key n is in (record { begun = a.begun; unclosed = a.unclosed }, tt)
  cancel-fits id key stays (Some n) false more is flag rest alone = ended-fits key n stays outcome.Canceled more (h.active key n is) (none_or (build_at s.builds n).outcome flag) (λ w files is. let f : ⊥ = cc in f) rest

  dispose-fits : (id key : ℕ) (settled_is : Bool) → settled_for s.builds (active_of s key) ≡ settled_is → AllFit s (disposed (record (met s key) { settled = settled_is }) id key)
  dispose-fits id key true flag = by (active_of s key) refl flag
    where
      by : (o : Option ℕ) → active_of s key ≡ o → settled_for s.builds o ≡ true → AllFit s (retire key ∷ canceled (record (met s key) { settled = true }) id key true o [])
      by None is e = absurd (false≢true e)
      by (Some n) is e = let a = h.active key n is in (is_some-of (active_of s key) n is, (record { begun = a.begun; unclosed = a.unclosed }, tt))
  dispose-fits id key false flag =
      cancel-fits id key true (active_of s key) false (remove key ∷ done id) refl flag
      (λ t same. (ap (λ (xs : List (ℕ × ℕ)). lookup (nat_eq key) xs) same ∙ without-same key s.active, (tt, tt))) (λ none. (none, (tt, tt)))

  effect-fits : (id : ℕ) (c : Command) → refusal (met s (key_of c)) c ≡ None → AllFit s (effect (met s (key_of c)) id c)
  effect-fits id (command.Build key options) e =
      let last : List (Bool × List ℕ) = too_many (not options.context) (met s key) ∷ [] in
      let one = accepts (is_some (lookup (nat_eq key) s.contexts)) (codes "Key in use") ((nat_le most_contexts (length s.contexts), codes "Too many contexts") ∷ last) e in
      let two = accepts (nat_le most_contexts (length s.contexts)) (codes "Too many contexts") last one.1 in
      let three = lasts (not options.context && is_full (met s key)) (codes "Too many builds") two.1 in
      build-fits id key options options.context (some-or (lookup (nat_eq key) s.contexts) one.0)
      (λ passes. not-full (length s.builds) (second (not options.context) (is_full (met s key)) (ap not passes) three))
  effect-fits id (command.Rebuild key) e =
      let last : List (Bool × List ℕ) = too_many (is_none (active_of s key)) (met s key) ∷ [] in
      let one = accepts (is_none (lookup (nat_eq key) s.contexts) || (met s key).retired) (codes "Unknown key") (crowded true (met s key) ∷ last) e in
      let two = accepts (true && nat_le most_waiting (met s key).waiting) (codes "Too many waiters") last one.1 in
      let three = lasts (is_none (active_of s key) && is_full (met s key)) (codes "Too many builds") two.1 in
      rebuild-fits id key (active_of s key) refl (there (lookup (nat_eq key) s.contexts) (left-false (is_none (lookup (nat_eq key) s.contexts)) (met s key).retired one.0))
      (λ none. not-full (length s.builds) (second (is_none (active_of s key)) (is_full (met s key)) (ap is_none none) three))
  effect-fits id (command.Cancel key) e =
      cancel-fits id key (options_of (met s key).context).context (active_of s key) (settled_for s.builds (active_of s key)) (done id) refl refl (λ t same. (tt, tt)) (λ none. (tt, tt))
  effect-fits id (command.Dispose key) e = dispose-fits id key (settled_for s.builds (active_of s key)) refl
  effect-fits id (command.Watch key) e = tt
  effect-fits id (command.Serve key port) e = tt
  effect-fits id command.Ping e = (tt, tt)

  command-fits : (id : ℕ) (c : Command) (o : Option (List ℕ)) → refusal (met s (key_of c)) c ≡ o → AllFit s (refused_or (met s (key_of c)) id c o)
  command-fits id c (Some text) is = (tt, tt)
  command-fits id c None is = effect-fits id c is

  request-fits : (id : ℕ) (a : Asked Command) → AllFit s (requested (met s) id a)
  request-fits id (Err text) = (tt, tt)
  request-fits id (Ok c) = command-fits id c (refusal (met s (key_of c)) c) refl

  arrive-fits : (p : Packet) (t : Bool) → AllFit s (cond t (requested (met s) p.id (asked p.value)) [])
  arrive-fits p true = request-fits p.id (asked p.value)
  arrive-fits p false = tt

  its-active : (n : ℕ) → n < length s.builds → (build_at s.builds n).closed ≡ false → IsActive s (build_at s.builds n).key n
  its-active n lt open_still = record { begun = lt; unclosed = open_still; its_key = refl }

  end-fits : (n : ℕ) (o : Outcome) → n < length s.builds → (build_at s.builds n).outcome ≡ None → PutsNone (build_at s.builds n) o → (stays : Bool) → AllFit s (ended (build_at s.builds n).key stays n o)
  end-fits n o lt is puts true =
      let k = h.sane n in
      (record { begun = lt; unsettled = is }, (settled-over (build_at s.builds n).key n o (its-active n lt (k.open_still is)) is puts, tt))
  end-fits n o lt is puts false =
      let k = h.sane n in
      (record { begun = lt; unsettled = is }, (settled-over (build_at s.builds n).key n o (its-active n lt (k.open_still is)) is puts, (without-same (build_at s.builds n).key s.active, tt)))

  pub settle-fits : (n : ℕ) (o : Outcome) (p : Option Outcome) → n < length s.builds → (build_at s.builds n).outcome ≡ p → AllFit s (settled_unless (standing s n) n o p)
  settle-fits n (outcome.Files files) None lt is = by (standing s n).writes (standing s n).stays refl
    where
      by : (writes stays : Bool) → (build_at s.builds n).options.write ≡ writes → AllFit s (settle n (outcome.Files files) ∷ cond writes [] (closed (build_at s.builds n).key stays n))
      by true stays put = (record { begun = lt; unsettled = is }, tt)
      by false true put = end-fits n (outcome.Files files) lt is (λ w more e. false≢true (sym put ∙ w)) true
      by false false put = end-fits n (outcome.Files files) lt is (λ w more e. false≢true (sym put ∙ w)) false
  settle-fits n (outcome.Errors messages) None lt is = end-fits n (outcome.Errors messages) lt is (λ w files e. let f : ⊥ = cc in f) (standing s n).stays
  settle-fits n outcome.Canceled None lt is = end-fits n outcome.Canceled lt is (λ w files e. let f : ⊥ = cc in f) (standing s n).stays
  settle-fits n outcome.Memory None lt is = end-fits n outcome.Memory lt is (λ w files e. let f : ⊥ = cc in f) (standing s n).stays
  settle-fits n o (Some p) lt is = tt

  -- what work adds fits, or else the end of the build does
  added-fits : (n : ℕ) (large : Bool) (adds : List Move) → n < length s.builds → (build_at s.builds n).outcome ≡ None → (large ≡ false → AllFit s adds) → AllFit s (added_or (standing s n) n large adds)
  added-fits n true adds lt is fit = settle-fits n too_large None lt is
  added-fits n false adds lt is fit = fit refl

  record-fits : (n : ℕ) (q : Question) (a : Answer) (o : Option Outcome) → n < length s.builds → (build_at s.builds n).outcome ≡ o → AllFit s (kept_unless (standing s n) n q a o)
  record-fits n q a None lt is = added-fits n (is_overfull (kept (build_at s.builds n).table q a)) (keep n q a ∷ []) lt is (λ small. (record { begun = lt; unsettled = is }, tt))
  record-fits n q a (Some o) lt is = tt

  opens-fit : (n : ℕ) (t : Option Task) → n < length s.builds → (build_at s.builds n).outcome ≡ None → has_too_many (opened (build_at s.builds n).tasks t) ≡ false → AllFit s (opens n t)
  opens-fit n None lt is few = tt
  opens-fit n (Some t) lt is few = (record { begun = lt; unsettled = is; few = few }, tt)

  deliver-fits : (n : ℕ) (t : Option Task) (o : Option Outcome) → n < length s.builds → (build_at s.builds n).outcome ≡ o → AllFit s (opened_unless (standing s n) n t o)
  deliver-fits n t None lt is = added-fits n (has_too_many (opened (build_at s.builds n).tasks t)) (opens n t) lt is (λ few. opens-fit n t lt is few)
  deliver-fits n t (Some o) lt is = tt

  some-outcome : (o : Option Outcome) (f : Failures) → may_fail o f ≡ true → IsSome o
  some-outcome None f e = absurd (false≢true e)
  some-outcome (Some o) f e = refl

  writer-taken : (o : Option ℕ) (worker : ℕ) → is_writer o worker ≡ true → IsSome o
  writer-taken None worker e = absurd (false≢true e)
  writer-taken (Some writer) worker e = refl

  writer-unclosed : (n : ℕ) (o : Option ℕ) (worker : ℕ) → (build_at s.builds n).writer ≡ o → is_writer o worker ≡ true → (build_at s.builds n).closed ≡ false
  writer-unclosed n None worker is e = absurd (false≢true e)
  writer-unclosed n (Some writer) worker is e = let k = h.sane n in k.writing writer is

  -- once its files are put, a build can be closed
  pub written-over : (n : ℕ) (f : Failures) → n < length s.builds → IsSome (build_at s.builds n).outcome → (build_at s.builds n).closed ≡ false → MayClose (moved s (write n f)) (build_at s.builds n).key n
  written-over n f lt some open_still =
      let own : build_at (slice_set s.builds n (written_by (build_at s.builds n) f)) n ≡ written_by (build_at s.builds n) f = get_or-set_same s.builds n (written_by (build_at s.builds n) f) no_build lt in
      record {
        active = record {
          begun = let long = length-set s.builds n (written_by (build_at s.builds n) f) in omega (arith, long, lt);
          unclosed = ap (λ (b : Building). b.closed) own ∙ open_still;
          its_key = ap (λ (b : Building). b.key) own;
        };
        settled = ap (λ (b : Building). is_some b.outcome) own ∙ some;
        free = ap (λ (b : Building). b.writer) own;
        put = λ w files is. ap (λ (b : Building). is_some b.failed) own;
      }

  written-fits : (n : ℕ) (f : Failures) → n < length s.builds → IsSome (build_at s.builds n).writer → IsSome (build_at s.builds n).outcome → (build_at s.builds n).closed ≡ false → AllFit s (write n f ∷ closed (build_at s.builds n).key (standing s n).stays n)
  written-fits n f lt taken some open_still = by (standing s n).stays
    where
      over : MayClose (moved s (write n f)) (build_at s.builds n).key n
      over = written-over n f lt some open_still

      by : (stays : Bool) → AllFit s (write n f ∷ closed (build_at s.builds n).key stays n)
      by true = (record { begun = lt; taken = taken; settled = some; unclosed = open_still }, (over, tt))
      by false = (record { begun = lt; taken = taken; settled = some; unclosed = open_still }, (over, (without-same (build_at s.builds n).key s.active, tt)))

  pub event-fits : (e : Event) → allowed s e ≡ true → AllFit s (moves s e)
  event-fits (event.Arrive packet) may = arrive-fits packet packet.request
  event-fits (event.Record worker n q a) may = record-fits n q a (build_at s.builds n).outcome (ltb-true n (length s.builds) (both_parts (has_begun s n) (fits q a) may).0) refl
  event-fits (event.Settle worker n o) may =
      settle-fits n o (build_at s.builds n).outcome (ltb-true n (length s.builds) (both_parts (has_begun s n) (may_settle (build_at s.builds n) worker o) may).0) refl
  event-fits (event.Written worker n f) may =
      let parts = both_parts (has_begun s n) (is_writer (build_at s.builds n).writer worker && may_fail (build_at s.builds n).outcome f) may in
      let more = both_parts (is_writer (build_at s.builds n).writer worker) (may_fail (build_at s.builds n).outcome f) parts.1 in
      written-fits n f (ltb-true n (length s.builds) parts.0) (writer-taken (build_at s.builds n).writer worker more.0) (some-outcome (build_at s.builds n).outcome f more.1) (writer-unclosed n (build_at s.builds n).writer worker refl more.0)
  event-fits event.Pop may = (ltb-true 0 (length s.owed) may, tt)
  event-fits event.EndOfInput may = tt
  event-fits (event.Claim role job) may = tt
  event-fits (event.Deliver worker n t p) may =
      deliver-fits n (named p) (build_at s.builds n).outcome (ltb-true n (length s.builds) (both_parts (has_begun s n) (has_task (build_at s.builds n) worker t && product_fits t p) may).0) refl
