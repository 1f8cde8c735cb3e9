-- Lists that are built element by element.
use Rattle.std.proofs.Common.{◌≡◌, Bool, true, false, cond, List, [], ◌∷◌, ◌++◌, filter, string_bytes, is_some, Option, refl, ap, sym, subst, ◌∙◌, append_assoc}
use Rattle.std.specs.List.{AllZip}
use Rattle.std.specs.Option.{option_to_list}
use Rattle.std.proofs.lemmas.List.{append-nil}
use Rattle.std.proofs.lemmas.List.Elements.{filter-append}
use Rattle.recordings.specs.RecordingLine.{RecordedLine}
use Rattle.recordings.specs.declared.invalidation.Invalidation.{Invalidation}
use Rattle.recordings.specs.Invalidations.{invalidations_of}
use Rattle.conformance.specs.declared.rejections.Rejections.{Rejections}
use Rattle.conformance.specs.declared.actor_label.ActorLabel.{ActorLabel}
use Rattle.conformance.specs.declared.finding.Finding.{Finding}
use Rattle.conformance.specs.declared.finding.Finding.TheVariants as finding
use Rattle.conformance.specs.CollectedFindings.{Adds, AreInvalidationsOf, IsInvalidationFinding, invalidates, IsSubject, is_counted, first_refusal_in, counted_with}

pub zip_push : {X Y : Type 0} (R : X → Y → Type 0) (xs : List X) (ys : List Y) (x : X) (y : Y) → AllZip R xs ys → R x y → AllZip R (xs ++ x ∷ []) (ys ++ y ∷ [])
zip_push R [] [] x y all one = (one, tt)
zip_push R [] (b ∷ ys) x y all one = absurd all
zip_push R (a ∷ xs) [] x y all one = absurd all
zip_push R (a ∷ xs) (b ∷ ys) x y all one = (all.0, zip_push R xs ys x y all.1 one)

zip_append : {X Y : Type 0} (R : X → Y → Type 0) (xs : List X) (ys : List Y) (us : List X) (vs : List Y) → AllZip R xs ys → AllZip R us vs → AllZip R (xs ++ us) (ys ++ vs)
zip_append R [] [] us vs all more = more
zip_append R [] (b ∷ ys) us vs all more = absurd all
zip_append R (a ∷ xs) [] us vs all more = absurd all
zip_append R (a ∷ xs) (b ∷ ys) us vs all more = (all.0, zip_append R xs ys us vs all.1 more)

-- The findings of one more event.
pub events_both : (lines : List RecordedLine) (old mid new : List Finding) (front back : List Invalidation) → Adds old (AreInvalidationsOf lines front) mid → Adds mid (AreInvalidationsOf lines back) new → Adds old (AreInvalidationsOf lines (front ++ back)) new
events_both lines old mid new front back a b = record {
  more = a.more ++ b.more;
  after = b.after ∙ (ap (λ (xs : List Finding). xs ++ b.more) a.after ∙ append_assoc old a.more b.more);
  so = zip_append (IsInvalidationFinding lines) front a.more back b.more a.so b.so;
}

pub events_more : (lines : List RecordedLine) (without : Bool) (old mid new : List Finding) (front : List Invalidation) (one : Invalidation) → Adds old (AreInvalidationsOf lines (filter (is_counted without) front)) mid
    → Adds mid (AreInvalidationsOf lines (filter (is_counted without) (one ∷ []))) new → Adds old (AreInvalidationsOf lines (filter (is_counted without) (front ++ one ∷ []))) new
events_more lines without old mid new front one a b =
    subst (λ (xs : List Invalidation). Adds old (AreInvalidationsOf lines xs) new) (sym (filter-append (is_counted without) front (one ∷ [])))
    (events_both lines old mid new (filter (is_counted without) front) (filter (is_counted without) (one ∷ [])) a b)

kept_by : (independent : Bool) (one : Invalidation) → independent ≡ true → cond independent (one ∷ []) [] ≡ one ∷ []
kept_by true one h = refl
kept_by false one h = absurd (let e : false ≡ true = h in cc)

left_by : (independent : Bool) (one : Invalidation) → independent ≡ false → cond independent (one ∷ []) [] ≡ []
left_by true one h = absurd (let e : true ≡ false = h in cc)
left_by false one h = refl

pub event_pushed : (lines : List RecordedLine) (old new : List Finding) (one : Invalidation) (label : ActorLabel) → IsSubject lines one.event (string_bytes label.name) (string_bytes label.pool) → new ≡ old ++ finding.Invalidation one label ∷ []
    → Adds old (AreInvalidationsOf lines (one ∷ [])) new
event_pushed lines old new one label so after = record { more = finding.Invalidation one label ∷ []; after = after; so = (invalidates label so, tt) }

pub event_added : (lines : List RecordedLine) (without : Bool) (old new : List Finding) (one : Invalidation) → is_counted without one ≡ true → Adds old (AreInvalidationsOf lines (one ∷ [])) new → Adds old (AreInvalidationsOf lines (filter (is_counted without) (one ∷ []))) new
event_added lines without old new one counted adds = subst (λ (xs : List Invalidation). Adds old (AreInvalidationsOf lines xs) new) (sym (kept_by (is_counted without one) one counted)) adds

pub no_events_added : (lines : List RecordedLine) (old : List Finding) → Adds old (AreInvalidationsOf lines []) old
no_events_added lines old = record { more = []; after = sym (append-nil old); so = tt }

pub event_left : (lines : List RecordedLine) (without : Bool) (old : List Finding) (one : Invalidation) → is_counted without one ≡ false → Adds old (AreInvalidationsOf lines (filter (is_counted without) (one ∷ []))) old
event_left lines without old one uncounted = subst (λ (xs : List Invalidation). Adds old (AreInvalidationsOf lines xs) old) (sym (left_by (is_counted without one) one uncounted)) (no_events_added lines old)

-- The findings of the filtered events and of the first refusal are those of all events of `counted_with`.
pub events_counted : (lines : List RecordedLine) (refusals : Option Rejections) (old mid new : List Finding) (without : Bool) (all : List Invalidation) (first : Option Invalidation) → without ≡ is_some refusals → all ≡ invalidations_of lines → first ≡ first_refusal_in refusals
    → Adds old (AreInvalidationsOf lines (filter (is_counted without) all)) mid → Adds mid (AreInvalidationsOf lines (option_to_list first)) new → Adds old (AreInvalidationsOf lines (counted_with refusals lines)) new
events_counted lines refusals old mid new without all first e1 e2 e3 a b =
    subst (λ (xs : List Invalidation). Adds old (AreInvalidationsOf lines xs) new)
    (ap (λ (w : Bool). filter (is_counted w) all ++ option_to_list first) e1
    ∙ ap (λ (xs : List Invalidation). filter (is_counted (is_some refusals)) xs ++ option_to_list first) e2
    ∙ ap (λ (o : Option Invalidation). filter (is_counted (is_some refusals)) (invalidations_of lines) ++ option_to_list o) e3)
    (events_both lines old mid new (filter (is_counted without) all) (option_to_list first) a b)
