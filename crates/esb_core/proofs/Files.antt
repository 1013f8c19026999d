-- No build has more files than its limit.
use Rattle.std.proofs.Common.{◌≡◌, ℕ, ◌≤◌, true, false, List, [], ◌∷◌, ◌++◌, length, sym, subst, arith, nat_lt}
use Rattle.esb_core.specs.declared.event.Job.TheVariants as job
use Rattle.esb_core.specs.declared.event.Role.TheVariants as role
use Rattle.esb_core.specs.declared.event.Event.{Event}
use Rattle.esb_core.specs.declared.event.Event.TheVariants as event
use Rattle.esb_core.specs.State.{Building, State, build_at, start}
use Rattle.esb_core.specs.Sizes.{files, most_files}
use Rattle.esb_core.specs.Moves.{Move, make, remove, begin, retire, join, owe, keep, assign, settle, write, close, take}
use Rattle.esb_core.specs.Steps.{entry_tasks, moved, all_moved, after, worked, moves, fresh, joined, answered, tasked, ended_by, written_by, closed_by, write_claimed, released, unclaimed, task_claimed, link_claimed}
use Rattle.esb_core.specs.History.{is_legal, replay}
use Rattle.esb_core.proofs.Adding.{entries-files}
use Rattle.esb_core.proofs.Each.{each-set, each-push}
use Rattle.esb_core.proofs.Laws.{ordered-legal}
use Rattle.esb_core.proofs.Legal.{each_legal}
use Rattle.esb_core.proofs.Orders.{Fits, AllFit, event-fits}
use Rattle.esb_core.proofs.Replays.{replay_from-append}

abbrev HasFew : ℕ → Building → Type 0
HasFew n b = files b.tasks ≤ most_files

abbrev AllHaveFew : State → Type 0
AllHaveFew s = (n : ℕ) → HasFew n (build_at s.builds n)

not-over : (most n : ℕ) → nat_lt most n ≡ false → n ≤ most
not-over most n e = grind (arith)

few-entries : (n : ℕ) → files (entry_tasks n) ≤ most_files
few-entries n = let none = entries-files 0 n in omega (arith, none)

moved-few : (s : State) (m : Move) → Fits s m → AllHaveFew s → AllHaveFew (moved s m)
moved-few s (make key options) f h = h
moved-few s (remove key) f h = h
moved-few s (begin n key options) f h = each-push HasFew s.builds (fresh key options) h (λ k none. few-entries (length options.entries))
moved-few s (retire key) f h = h
moved-few s (join n id result) f h = each-set HasFew s.builds n (joined (build_at s.builds n) id result) h (h n)
moved-few s (owe o) f h = h
moved-few s (keep n q a) f h = each-set HasFew s.builds n (answered (build_at s.builds n) q a) h (h n)
moved-few s (assign n t) f h = let few = f.few in each-set HasFew s.builds n (tasked (build_at s.builds n) t) h (not-over most_files (files (tasked (build_at s.builds n) t).tasks) few)
moved-few s (settle n o) f h = each-set HasFew s.builds n (ended_by (build_at s.builds n) o) h (h n)
moved-few s (write n g) f h = each-set HasFew s.builds n (written_by (build_at s.builds n) g) h (h n)
moved-few s (close key n) f h = each-set HasFew s.builds n (closed_by (build_at s.builds n)) h (h n)
moved-few s take f h = h

all_moved-few : (s : State) (ms : List Move) → AllFit s ms → AllHaveFew s → AllHaveFew (all_moved s ms)
all_moved-few s [] f h = h
all_moved-few s (m ∷ ms) f h = all_moved-few (moved s m) ms f.1 (moved-few s m f.0 h)

worked-few : (s : State) (e : Event) → AllHaveFew s → AllHaveFew (worked s e)
worked-few s (event.Claim (role.Worker worker) (job.Scan n t)) h = each-set HasFew s.builds n (task_claimed (build_at s.builds n) worker t) h (h n)
worked-few s (event.Claim (role.Worker worker) (job.Link n)) h = each-set HasFew s.builds n (link_claimed (build_at s.builds n) worker) h (h n)
worked-few s (event.Claim (role.Worker worker) (job.Write n)) h = each-set HasFew s.builds n (write_claimed (build_at s.builds n) worker) h (h n)
worked-few s (event.Claim (role.Door door) j) h = h
worked-few s (event.Written worker n f) h = h
worked-few s (event.Deliver worker n t p) h = each-set HasFew s.builds n (unclaimed (build_at s.builds n) worker t) h (h n)
worked-few s (event.Settle worker n o) h = each-set HasFew s.builds n (released (build_at s.builds n) worker) h (h n)
worked-few s event.EndOfInput h = h
worked-few s (event.Arrive p) h = h
worked-few s (event.Record worker n q a) h = h
worked-few s event.Pop h = h

at-start : AllHaveFew start
at-start n = omega arith

-- no build of a legal list has more files
pub few-files : (events : List Event) → is_legal events ≡ true → (n : ℕ) → files (build_at (replay events).builds n).tasks ≤ most_files
few-files events legal =
    each_legal (λ es. AllHaveFew (replay es)) at-start
    (λ es e before may h.
    subst AllHaveFew (sym (replay_from-append start es (e ∷ [])))
    (worked-few (all_moved (replay es) (moves (replay es) e)) e (all_moved-few (replay es) (moves (replay es) e) (event-fits (replay es) (ordered-legal es before) e may) h)))
    events legal
