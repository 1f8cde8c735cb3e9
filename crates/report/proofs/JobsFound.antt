-- The jobs that a loop over the live view found so far.
use Rattle.std.proofs.Common.{◌≡◌, ℕ, ◌+◌, ◌<◌, Bool, true, false, List, [], ◌∷◌, ◌++◌, length, take, Option, Some, None, sym, ap, ◌∙◌, arith, append-nil}
use Rattle.std.proofs.lemmas.List.{take_more, length-take}
use Rattle.support.specs.Places.{cons_if, places_where, last_of}
use Rattle.support.proofs.PassingPlaces.{places_where_push}
use Rattle.support.proofs.LastPlace.{last_where_push, last_where_push_fails}
use Rattle.interleaving.specs.declared.job_view.JobView.{JobView}
use Rattle.interleaving.specs.ViewStep.{live_job}

length-front : (jobs : List (Option JobView)) (n : ℕ) → n < length jobs → length (take n jobs) ≡ n
length-front jobs n inside = omega (arith, length-take n jobs)

more : (jobs : List (Option JobView)) (n : ℕ) → n < length jobs → take (n + 1) jobs ≡ take n jobs ++ live_job jobs n ∷ []
more jobs n inside = take_more jobs n None inside

-- the job at n passes, and is the last that does
pub last_here : (test : Option JobView → Bool) (jobs : List (Option JobView)) (n : ℕ) → n < length jobs → test (live_job jobs n) ≡ true → Some n ≡ last_of (places_where test (take (n + 1) jobs))
last_here test jobs n inside passes =
    sym (ap (λ (xs : List (Option JobView)). last_of (places_where test xs)) (more jobs n inside) ∙ last_where_push test (take n jobs) (live_job jobs n) passes ∙ ap Some (length-front jobs n inside))

pub last_before : (test : Option JobView → Bool) (jobs : List (Option JobView)) (n : ℕ) (found : Option ℕ) → n < length jobs → test (live_job jobs n) ≡ false → found ≡ last_of (places_where test (take n jobs)) → found ≡ last_of (places_where test (take (n + 1) jobs))
last_before test jobs n found inside fails so_far =
    so_far ∙ sym (ap (λ (xs : List (Option JobView)). last_of (places_where test xs)) (more jobs n inside) ∙ last_where_push_fails test (take n jobs) (live_job jobs n) fails)

places_more : (test : Option JobView → Bool) (jobs : List (Option JobView)) (n : ℕ) (b : Bool) → n < length jobs → test (live_job jobs n) ≡ b → places_where test (take (n + 1) jobs) ≡ places_where test (take n jobs) ++ cons_if b n []
places_more test jobs n b inside is_test =
    ap (places_where test) (more jobs n inside) ∙ places_where_push test (take n jobs) (live_job jobs n)
    ∙ ap (λ (x : Bool). places_where test (take n jobs) ++ cons_if x (length (take n jobs)) []) is_test ∙ ap (λ (x : ℕ). places_where test (take n jobs) ++ cons_if b x []) (length-front jobs n inside)

-- the job at n passes, and was appended
pub one_pushed : (test : Option JobView → Bool) (jobs : List (Option JobView)) (n : ℕ) (old now : List ℕ) → n < length jobs → test (live_job jobs n) ≡ true → old ≡ places_where test (take n jobs) → now ≡ old ++ n ∷ [] → now ≡ places_where test (take (n + 1) jobs)
one_pushed test jobs n old now inside passes so_far pushed =
    pushed ∙ ap (λ (xs : List ℕ). xs ++ n ∷ []) so_far ∙ sym (places_more test jobs n true inside passes)

pub none_pushed : (test : Option JobView → Bool) (jobs : List (Option JobView)) (n : ℕ) (old : List ℕ) → n < length jobs → test (live_job jobs n) ≡ false → old ≡ places_where test (take n jobs) → old ≡ places_where test (take (n + 1) jobs)
none_pushed test jobs n old inside fails so_far =
    so_far ∙ sym (places_more test jobs n false inside fails ∙ append-nil (places_where test (take n jobs)))
