-- What the events of a session do to the files of its host.
use Rattle.std.proofs.Common.{◌≡◌, ◌≢◌, ◌⊎◌, ℕ, ◌+◌, ◌≤◌, Bool, true, false, cond, ◌||◌, List, [], ◌∷◌, ◌++◌, Option, Some, None, inl, inr, refl, sym, ap, subst, ◌∙◌, arith, fold, count_by}
use Rattle.std.specs.List.{flat_map, list_any}
use Rattle.std.specs.Str.{bytes_eq}
use Rattle.std.proofs.lemmas.Bool.{false≢true}
use Rattle.std.proofs.lemmas.List.Sums.{fold-append, sum_by-append}
use Rattle.std.proofs.lemmas.Slice.Eq.{bytes_eq-Decides}
use Rattle.esb_base.specs.Faults.{Rose}
use Rattle.esb_base.specs.declared.host.PutFault.{PutFault}
use Rattle.esb_base.specs.declared.host.PutFault.TheVariants as put_faults
use Rattle.esb_ask.specs.declared.outcome.OutFile.{OutFile}
use Rattle.esb_ask.specs.declared.outcome.Outcome.{Outcome}
use Rattle.esb_ask.specs.declared.outcome.Outcome.TheVariants as outcomes
use Rattle.esb_ask.specs.declared.outcome.Failures.{Failures}
use Rattle.esb_ask.specs.declared.outcome.Failures.TheVariants as failures
use Rattle.esb_core.specs.Allowed.{is_part}
use Rattle.esb_core.specs.declared.event.Event.{Event}
use Rattle.esb_core.specs.declared.event.Event.TheVariants as events
use Rattle.esb_core.specs.History.{outcome}
use Rattle.esb_core.proofs.Moving.{gathered-push}
use Rattle.esb_sound.specs.Files.{Fate, untouched, ArePut, Fits, HasPut, contents_at, contents_over, failed_puts, fate, fate_over, is_failed, listed, lists, may_miss, put_over, writing_of, writings, written_over}
use Rattle.esb_sound.specs.Told.{RoseBy}
use Rattle.esb_top.specs.Input.{ArrivesOne}
use Rattle.esb_top.specs.Output.{PopsOne}
use Rattle.esb_top.specs.Puts.{Files, Puts, PutsOne}
use Rattle.esb_top.proofs.Histories.{flat_map-push}

-- ---- one event more

fate-push : (path : List ℕ) (es : List Event) (e : Event) → fate path (es ++ e ∷ []) ≡ fold (fate_over path) (fate path es) (writing_of es e)
fate-push path es e = ap (λ (ws : List (Option Outcome × Failures)). fold (fate_over path) untouched ws) (gathered-push writing_of es e) ∙ fold-append (fate_over path) untouched (writings es) (writing_of es e)

failed_puts-push : (es : List Event) (e : Event) → failed_puts (es ++ e ∷ []) ≡ failed_puts es + count_by is_failed (lists e)
failed_puts-push es e = ap (λ fs. count_by is_failed fs) (flat_map-push lists es e) ∙ sum_by-append (λ f. cond (is_failed f) 1 0) (flat_map lists es) (lists e)

-- an event that puts no files
pub has-same : (was now : Files) (es fs : List Event) (e : Event) → fs ≡ es ++ e ∷ [] → writing_of es e ≡ [] → HasPut was now es → HasPut was now fs
has-same was now es fs e is none h path =
    subst (λ (f : Fate). Fits f (was path) (now path)) (sym (ap (λ (ds : List Event). fate path ds) is ∙ fate-push path es e ∙ ap (λ (ws : List (Option Outcome × Failures)). fold (fate_over path) (fate path es) ws) none)) (h path)

pub failed_puts-same : (es fs : List Event) (e : Event) → fs ≡ es ++ e ∷ [] → lists e ≡ [] → failed_puts fs ≡ failed_puts es
failed_puts-same es fs e is none = ap failed_puts is ∙ failed_puts-push es e ∙ ap (λ (ls : List (List ℕ × PutFault)). failed_puts es + count_by is_failed ls) none ∙ omega arith

-- files that are put over what was there
over-fits : (contents : Option (List ℕ)) (missed : Bool) (earlier : Fate) (start was now : Option (List ℕ)) → Fits earlier start was → Fits (put_over contents missed untouched) was now → Fits (put_over contents missed earlier) start now
over-fits None missed earlier start was now h same = subst (λ (x : Option (List ℕ)). Fits earlier start x) (sym same) h
over-fits (Some contents) true earlier start was now h any = tt
over-fits (Some contents) false earlier start was now h is = is

rose-later : (times start old new : ℕ) → old ≤ new → RoseBy times start old → RoseBy times start new
rose-later times start old new le (inl h) = inl (omega (arith, le, h))
rose-later times start old new le (inr h) = inr (omega (arith, le, h))

pub rose-sum : (a b start old new : ℕ) → RoseBy a start old → RoseBy b old new → RoseBy (a + b) start new
rose-sum a b start old new (inl h) (inl k) = inl (omega (arith, h, k))
rose-sum a b start old new (inr h) (inl k) = inr (omega (arith, h, k))
rose-sum a b start old new h (inr k) = inr k

-- ---- pieces of a session

module _ (tells : Type 0) where
  -- nothing happens
  pub puts-kept : (was now : Files) (old new : ℕ) (es fs : List Event) → fs ≡ es → (tells → (path : List ℕ) → now path ≡ was path) → old ≤ new → Puts tells was now old new es fs
  puts-kept was now old new es fs is same le = subst (λ (ds : List Event). Puts tells was now old new es ds) (sym is) record {
    files = λ t start h path. subst (λ (x : Option (List ℕ)). Fits (fate path es) (start path) x) (sym (same t path)) (h path);
    counted = λ start h. rose-later (failed_puts es) start old new le h;
  }

  pub puts-refl : (was : Files) (count : ℕ) (es : List Event) → Puts tells was was count count es es
  puts-refl was count es = record { files = λ t start h. h; counted = λ start h. h }

  pub puts-trans : (was mid now : Files) (a b c : ℕ) (es fs gs : List Event) → Puts tells was mid a b es fs → Puts tells mid now b c fs gs → Puts tells was now a c es gs
  puts-trans was mid now a b c es fs gs v w = record {
    files = λ t start h. w.files t start (v.files t start h);
    counted = λ start h. w.counted start (v.counted start h);
  }

  -- an event that puts no files
  pub puts-push : (was now : Files) (old new : ℕ) (es fs : List Event) (e : Event) → fs ≡ es ++ e ∷ [] → writing_of es e ≡ [] → lists e ≡ [] → (tells → (path : List ℕ) → now path ≡ was path) → old ≤ new → Puts tells was now old new es fs
  puts-push was now old new es fs e is none none_listed same le = record {
    files = λ t start h. has-same start now es fs e is none (λ path. subst (λ (x : Option (List ℕ)). Fits (fate path es) (start path) x) (sym (same t path)) (h path));
    counted = λ start h. subst (λ (k : ℕ). RoseBy k start new) (sym (failed_puts-same es fs e is none_listed)) (rose-later (failed_puts es) start old new le h);
  }

  pub puts-pops : (was : Files) (count : ℕ) (es fs : List Event) → PopsOne es fs → Puts tells was was count count es fs
  puts-pops was count es fs (inl is) = puts-kept was was count count es fs is (λ t path. refl) (omega arith)
  puts-pops was count es fs (inr is) = puts-push was was count count es fs events.Pop is refl refl (λ t path. refl) (omega arith)

  pub puts-arrives : (was : Files) (count : ℕ) (es fs : List Event) → ArrivesOne es fs → Puts tells was was count count es fs
  puts-arrives was count es fs (inl is) = puts-kept was was count count es fs is (λ t path. refl) (omega arith)
  puts-arrives was count es fs (inr h) = puts-push was was count count es fs (events.Arrive h.0) h.1 refl refl (λ t path. refl) (omega arith)

  -- the files of a build are put
  pub puts-written : (was now : Files) (old new : ℕ) (es fs : List Event) (n : ℕ) (files : List OutFile) (f : Failures) → fs ≡ es ++ events.Written 0 n f ∷ [] → outcome es n ≡ Some (outcomes.Files files) → (tells → ArePut files f was now)
      → RoseBy (count_by is_failed (listed f)) old new → Puts tells was now old new es fs
  puts-written was now old new es fs n files f is ended put rise = record {
    files = λ t start h path.
        subst (λ (x : Fate). Fits x (start path) (now path))
        (sym (ap (λ (ds : List Event). fate path ds) is ∙ fate-push path es (events.Written 0 n f) ∙ ap (λ (o : Option Outcome). written_over path (fate path es) o f) ended))
        (over-fits (contents_at path files) (may_miss path f) (fate path es) (start path) (was path) (now path) (h path) (put t path));
    counted = λ start h. subst (λ (k : ℕ). RoseBy k start new) (sym (ap failed_puts is ∙ failed_puts-push es (events.Written 0 n f))) (rose-sum (failed_puts es) (count_by is_failed (listed f)) start old new h rise);
  }

-- where the list can't be had, each file may not have been put
pub put-all : (files : List OutFile) (f : Failures) (was now : Files) → ArePut files f was now → ArePut files failures.All was now
put-all files f was now h path = by (contents_at path files) (may_miss path f) (h path)
  where
    by : (contents : Option (List ℕ)) (missed : Bool) → Fits (put_over contents missed untouched) (was path) (now path) → Fits (put_over contents true untouched) (was path) (now path)
    by None missed same = same
    by (Some contents) missed h = tt

-- ---- one file more

contents-push : (path : List ℕ) (files : List OutFile) (file : OutFile) → contents_at path (files ++ file ∷ []) ≡ contents_over path (contents_at path files) file
contents-push path files file = fold-append (contents_over path) None files (file ∷ [])

any-push : {X : Type 0} (p : X → Bool) (xs : List X) (x : X) → list_any p (xs ++ x ∷ []) ≡ (list_any p xs || p x)
any-push p [] x = or-none (p x)
  where
    or-none : (b : Bool) → (b || false) ≡ b
    or-none true = refl
    or-none false = refl
any-push p (y ∷ ys) x = ap (λ b. p y || b) (any-push p ys x) ∙ or-assoc (p y) (list_any p ys) (p x)
  where
    or-assoc : (a b c : Bool) → (a || (b || c)) ≡ ((a || b) || c)
    or-assoc true b c = refl
    or-assoc false b c = refl

part-more : (fs : List (List ℕ × PutFault)) (files : List OutFile) (file : OutFile) → is_part fs files ≡ true → is_part fs (files ++ file ∷ []) ≡ true
part-more [] files file h = refl
part-more (f ∷ fs) [] file h = absurd (false≢true h)
part-more (f ∷ fs) (x ∷ files) file h = by (bytes_eq f.0 x.path) (part-more fs files file) (part-more (f ∷ fs) files file) h
  where
    by : (b : Bool) → (is_part fs files ≡ true → is_part fs (files ++ file ∷ []) ≡ true) → (is_part (f ∷ fs) files ≡ true → is_part (f ∷ fs) (files ++ file ∷ []) ≡ true)
        → cond b (is_part fs files) (is_part (f ∷ fs) files) ≡ true → cond b (is_part fs (files ++ file ∷ [])) (is_part (f ∷ fs) (files ++ file ∷ [])) ≡ true
    by true rest all h = rest h
    by false rest all h = all h

part-last : (fs : List (List ℕ × PutFault)) (files : List OutFile) (file : OutFile) (fault : PutFault) → is_part fs files ≡ true → is_part (fs ++ (file.path, fault) ∷ []) (files ++ file ∷ []) ≡ true
part-last [] [] file fault h = ap (λ b. cond b true false) ((bytes_eq-Decides file.path file.path).1 refl)
part-last [] (x ∷ files) file fault h = by (bytes_eq file.path x.path) (part-last [] files file fault refl)
  where
    by : (b : Bool) → is_part ((file.path, fault) ∷ []) (files ++ file ∷ []) ≡ true → cond b true (is_part ((file.path, fault) ∷ []) (files ++ file ∷ [])) ≡ true
    by true rest = refl
    by false rest = rest
part-last (f ∷ fs) [] file fault h = absurd (false≢true h)
part-last (f ∷ fs) (x ∷ files) file fault h = by (bytes_eq f.0 x.path) (part-last fs files file fault) (part-last (f ∷ fs) files file fault) h
  where
    by : (b : Bool) → (is_part fs files ≡ true → is_part (fs ++ (file.path, fault) ∷ []) (files ++ file ∷ []) ≡ true)
        → (is_part (f ∷ fs) files ≡ true → is_part (f ∷ fs ++ (file.path, fault) ∷ []) (files ++ file ∷ []) ≡ true) → cond b (is_part fs files) (is_part (f ∷ fs) files) ≡ true
        → cond b (is_part (fs ++ (file.path, fault) ∷ []) (files ++ file ∷ [])) (is_part (f ∷ fs ++ (file.path, fault) ∷ []) (files ++ file ∷ [])) ≡ true
    by true rest all h = rest h
    by false rest all h = all h

-- what was put so far, and the list of what failed
pub record ArePutSo (tells : Type 0) (was now : Files) (faults_old faults_new : ℕ) (files : List OutFile) (fs : List (List ℕ × PutFault)) : Type 0 where
  pub part : is_part fs files ≡ true
  pub put : tells → ArePut files (failures.Paths fs) was now
  pub counted : RoseBy (count_by is_failed fs) faults_old faults_new

module _ (tells : Type 0) (was mid now : Files) (a b c : ℕ) (files : List OutFile) (file : OutFile) (fs gs : List (List ℕ × PutFault)) where
  -- a file with another path
  other-fits : (path : List ℕ) → bytes_eq path file.path ≡ false → may_miss path (failures.Paths gs) ≡ may_miss path (failures.Paths fs) → now path ≡ mid path
      → Fits (put_over (contents_at path files) (may_miss path (failures.Paths fs)) untouched) (was path) (mid path) → Fits (put_over (contents_at path (files ++ file ∷ [])) (may_miss path (failures.Paths gs)) untouched) (was path) (now path)
  other-fits path apart same_miss same h =
      subst (λ (f : Fate). Fits f (was path) (now path))
      (sym (ap (λ (x : Option (List ℕ)). put_over x (may_miss path (failures.Paths gs)) untouched) (contents-push path files file ∙ ap (λ b. cond b (Some file.contents) (contents_at path files)) apart)
      ∙ ap (λ (m : Bool). put_over (contents_at path files) m untouched) same_miss))
      (subst (λ (x : Option (List ℕ)). Fits (put_over (contents_at path files) (may_miss path (failures.Paths fs)) untouched) (was path) x) (sym same) h)

  -- the file's own path
  here-fits : (path : List ℕ) → bytes_eq path file.path ≡ true → (may_miss path (failures.Paths gs) ≡ false → now path ≡ Some file.contents) → Fits (put_over (contents_at path (files ++ file ∷ [])) (may_miss path (failures.Paths gs)) untouched) (was path) (now path)
  here-fits path same put =
      subst (λ (x : Option (List ℕ)). Fits (put_over x (may_miss path (failures.Paths gs)) untouched) (was path) (now path))
      (sym (contents-push path files file ∙ ap (λ b. cond b (Some file.contents) (contents_at path files)) same)) (by (may_miss path (failures.Paths gs)) put)
    where
      by : (missed : Bool) → (missed ≡ false → now path ≡ Some file.contents) → Fits (put_over (Some file.contents) missed untouched) (was path) (now path)
      by true put = tt
      by false put = put refl

  pub put-one-more : ArePutSo tells was mid a b files fs → PutsOne tells mid now b c file fs gs → ArePutSo tells was now a c (files ++ file ∷ []) gs
  put-one-more so one = by one.here
    where
      apart-of : (path : List ℕ) → bytes_eq path file.path ≡ false → path ≢ file.path
      apart-of path apart same = false≢true (sym apart ∙ (bytes_eq-Decides path file.path).1 same)

      by : ((gs ≡ fs) × (tells → now file.path ≡ Some file.contents)) ⊎ ((fault : PutFault) × (gs ≡ fs ++ (file.path, fault) ∷ []) × (fault ≡ put_faults.Failed → Rose b c)) → ArePutSo tells was now a c (files ++ file ∷ []) gs
      by (inl put) = record {
        part = subst (λ (hs : List (List ℕ × PutFault)). is_part hs (files ++ file ∷ []) ≡ true) (sym put.0) (part-more fs files file so.part);
        put = λ t path. at t path (bytes_eq path file.path) refl;
        counted = subst (λ (hs : List (List ℕ × PutFault)). RoseBy (count_by is_failed hs) a c) (sym put.0) (rose-later (count_by is_failed fs) a b c one.never_falls so.counted);
      }
        where
          at : tells → (path : List ℕ) (same : Bool) → bytes_eq path file.path ≡ same → Fits (put_over (contents_at path (files ++ file ∷ [])) (may_miss path (failures.Paths gs)) untouched) (was path) (now path)
          at t path true is = here-fits path is (λ none. ap now ((bytes_eq-Decides path file.path).0 is) ∙ put.1 t)
          at t path false is = other-fits path is (ap (λ (hs : List (List ℕ × PutFault)). may_miss path (failures.Paths hs)) put.0) (one.others t path (apart-of path is)) (so.put t path)
      by (inr miss) = record {
        part = subst (λ (hs : List (List ℕ × PutFault)). is_part hs (files ++ file ∷ []) ≡ true) (sym miss.1) (part-last fs files file miss.0 so.part);
        put = λ t path. at t path (bytes_eq path file.path) refl;
        counted = subst (λ (k : ℕ). RoseBy k a c) (sym (ap (λ (hs : List (List ℕ × PutFault)). count_by is_failed hs) miss.1 ∙ sum_by-append (λ f. cond (is_failed f) 1 0) fs ((file.path, miss.0) ∷ []))) (counts miss.0 miss.2);
      }
        where
          missed : (path : List ℕ) → may_miss path (failures.Paths gs) ≡ (may_miss path (failures.Paths fs) || bytes_eq path file.path)
          missed path = ap (λ (hs : List (List ℕ × PutFault)). may_miss path (failures.Paths hs)) miss.1 ∙ any-push (λ failure. bytes_eq path failure.0) fs (file.path, miss.0)

          or-true : (x y : Bool) → y ≡ true → (x || y) ≡ true
          or-true true y e = refl
          or-true false y e = e

          or-false : (x y : Bool) → y ≡ false → (x || y) ≡ x
          or-false true y e = refl
          or-false false y e = e

          at : tells → (path : List ℕ) (same : Bool) → bytes_eq path file.path ≡ same → Fits (put_over (contents_at path (files ++ file ∷ [])) (may_miss path (failures.Paths gs)) untouched) (was path) (now path)
          at t path true is = here-fits path is (λ none. absurd (false≢true (sym none ∙ missed path ∙ or-true (may_miss path (failures.Paths fs)) (bytes_eq path file.path) is)))
          at t path false is = other-fits path is (missed path ∙ or-false (may_miss path (failures.Paths fs)) (bytes_eq path file.path) is) (one.others t path (apart-of path is)) (so.put t path)

          counts : (fault : PutFault) → (fault ≡ put_faults.Failed → Rose b c) → RoseBy (count_by is_failed fs + count_by is_failed ((file.path, fault) ∷ [])) a c
          counts put_faults.Failed rise = rose-sum (count_by is_failed fs) 1 a b c so.counted (once (rise refl))
            where
              once : Rose b c → RoseBy 1 b c
              once (inl more) = inl (omega (arith, more))
              once (inr most) = inr (omega (arith, most))
          counts put_faults.Memory rise = subst (λ (k : ℕ). RoseBy k a c) (omega arith) (rose-later (count_by is_failed fs) a b c one.never_falls so.counted)
