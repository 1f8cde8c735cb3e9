-- The meaning of status 0 of `fit`.
use Rattle.std.proofs.Common.{◌≡◌, ◌≤◌, ◌<◌, ℕ, inl, inr, Bool, true, false, ◌||◌, List, [], ◌∷◌, ◌++◌, length, arith, Result, Ok, Err, IsTrue, refl, sym, ap, subst, ◌∙◌}
use Rattle.std.specs.Prelude.{MatchBool, nat_lt, ◌==◌}
use Rattle.std.proofs.lemmas.Bool.{eqb-true, cases_lt}
use Rattle.std.proofs.lemmas.List.{length-append}
use Rattle.job_bodies.specs.Plan.{Pool, Plan, pool_at}
use Rattle.job_bodies.proofs.Bodies.{ordered}
use Rattle.size_search.proofs.Changes.{length-outline, pool_at-outline, same_timeout}
use Rattle.job_bodies.specs.declared.fault.PlanFault.{PlanFault}
use Rattle.plan_text.specs.PlanOf.{plan_of}
use Rattle.plan_text.specs.EffectivePlan.{effective_plan}
use Rattle.plan_text.proofs.EffectivePlans.{effective_by_sizes, sizes_of_effective}
use Rattle.cert_text.specs.Cert.{Cert}
use Rattle.job_bodies.specs.declared.limits.TheConstants.{MAX_CERT_BYTES, MAX_INPUT_BYTES}
use Rattle.cert_text.specs.CertText.{cert_text}
use Rattle.soundness.specs.Accepted.{accepted}
use Rattle.soundness.proofs.Promised.{promises}
use Rattle.cert_check.proofs.Yes.{plans_read_are_well_formed}
use Rattle.size_search.specs.declared.found.SizesFound.{SizesFound}
use Rattle.size_search.specs.declared.found.SizesFound.TheVariants.{Found, NotFound}
use Rattle.size_search.specs.Sized.{IsSized, IsFound}
use Rattle.report.specs.Sizes.{changes}
use Rattle.report.proofs.Unchanged.{unchanged}
use Rattle.command_line.specs.declared.command.SizesForm.TheVariants.{Sizes, Bundle}
use Rattle.sizing_cli.specs.declared.status.Status.TheVariants.{Done, Refused, BadText}
use Rattle.sizing_cli.specs.Answer.{Answer, yes_or_no, input_too_long}
use Rattle.sizing_cli.specs.SafeInput.{IsSafePlan}
use Rattle.sizing_cli.specs.Certify.{HasLongText}
use Rattle.sizing_cli.specs.Fit.{no_sizes_answer, text_too_long, AreEffective, AnswersFound, AnswersReading, IsFitAnswer, IsFittedBundle}
use Rattle.sizing_cli.proofs.SafeInputs.{yes_from_done}

-- ---- the plan that was fitted

either_true : (a b : Bool) → b ≡ true → (a || b) ≡ true
either_true true b on = refl
either_true false b on = on

-- if the plan is its own effective plan, so is the plan with the sizes that were found: a maximum that grows equals its core
pub fit_is_effective : (plan fit : Plan) (cert : Cert) → effective_plan plan ≡ plan → IsSized plan cert fit → effective_plan fit ≡ fit
fit_is_effective plan fit cert same sized = effective_by_sizes fit (λ p inside on.
    let alike = sym (pool_at-outline fit p) ∙ ap (λ (q : Plan). pool_at q p) sized.fits.same_outline ∙ pool_at-outline plan p in
    let was : (pool_at plan p).unbounded ≡ true = sym (ap (λ (pool : Pool). pool.unbounded) alike) ∙ on in
    let as_many : length fit.pools ≡ length plan.pools = sym (length-outline fit) ∙ ap (λ (q : Plan). length q.pools) sized.fits.same_outline ∙ length-outline plan in
    let declared = sizes_of_effective plan same p (omega (arith, as_many, inside)) was in
    let sizes = ordered fit sized.fits.well_formed in
    let max : (pool_at fit p).core_timeout ≡ false → (pool_at fit p).max ≡ (pool_at fit p).core = λ never.
    let declared_max : (pool_at plan p).max ≡ (pool_at plan p).core = declared.0 (sym (same_timeout plan fit p sized.fits.same_outline) ∙ never) in
    elim (cases_lt (pool_at plan p).max (pool_at fit p).max) [
      | inl above ↦ sized.max_is_core p above
      | inr past ↦ omega (arith, past, sizes.max p inside, sized.no_smaller.core p, declared_max)
    ]
    in
    (max, sized.keeps_queues.same_queue p (either_true (pool_at plan p).may_reject (pool_at plan p).unbounded was) ∙ declared.1))

-- an answer with the status Refused does not have the status Done
pub refused_is_not_done : (answer other : Answer) → answer ≡ other → other.status ≡ Refused → answer.status ≡ Done → ⊥
refused_is_not_done answer other same refused done =
    let no : Refused ≡ Done = sym refused ∙ (sym (ap (λ (a : Answer). a.status) same) ∙ done) in
    absurd cc

pub bad_text_is_not_done : (answer other : Answer) → answer ≡ other → other.status ≡ BadText → answer.status ≡ Done → ⊥
bad_text_is_not_done answer other same bad done =
    let no : BadText ≡ Done = sym bad ∙ (sym (ap (λ (a : Answer). a.status) same) ∙ done) in
    absurd cc

-- if the plan is its own effective plan, the sizes that a search found are those of such a plan too
pub found_is_effective : (plan : Plan) (found : SizesFound) → effective_plan plan ≡ plan → IsFound plan found → AreEffective found
found_is_effective plan (Found fit cert) same sized = fit_is_effective plan fit cert same sized
found_is_effective plan (NotFound cause) same is_cause = tt

-- if no size changes, the certificate accepts the plan as it is
sized_as_it_is : (plan fit : Plan) (cert : Cert) → IsSized plan cert fit → changes plan fit ≡ 0 → IsTrue (accepted plan cert)
sized_as_it_is plan fit cert sized none =
    subst (λ (p : Plan). IsTrue (accepted p cert)) (unchanged plan fit sized.fits.same_outline none) sized.fits.accepts

-- a certificate's text of the maximum length is too long once it has a newline
pub long_with_newline : (cert : Cert) (text : List ℕ) → text ≡ cert_text cert → MAX_CERT_BYTES ≤ length text → HasLongText cert
long_with_newline cert text is long = subst (λ (t : List ℕ). MAX_CERT_BYTES < length (t ++ 10 ∷ [])) is (longer text long)
  where
    longer : (t : List ℕ) → MAX_CERT_BYTES ≤ length t → MAX_CERT_BYTES < length (t ++ 10 ∷ [])
    longer t long = omega (arith, long, length-append t (10 ∷ []))

pub sizes_mean_safe : (input : List ℕ) (answer : Answer) → IsFitAnswer Sizes input answer → answer.status ≡ Done → IsSafePlan input
sizes_mean_safe input answer is done = by_length (nat_lt MAX_INPUT_BYTES (length input)) is
  where
    by_found : (plan : Plan) → plan_of input ≡ Ok plan → (found : SizesFound) → IsFound plan found → AnswersFound Sizes plan found answer → IsSafePlan input
    by_found plan is_plan (NotFound cause) is_cause is = absurd (refused_is_not_done answer (no_sizes_answer plan cause) is refl done)
    by_found plan is_plan (Found fit cert) sized is =
        let yes : yes_or_no (changes plan fit == 0) ≡ Done = sym (ap (λ (a : Answer). a.status) is) ∙ done in
        let none : changes plan fit ≡ 0 = eqb-true (changes plan fit) 0 (yes_from_done (changes plan fit == 0) yes) in
        record {
          plan = plan;
          is_plan = is_plan;
          cert = cert;
          promises = promises plan cert (plans_read_are_well_formed input plan is_plan) (sized_as_it_is plan fit cert sized none);
        }

    by_plan : (read : Result Plan PlanFault) → plan_of input ≡ read → AnswersReading Sizes read answer → IsSafePlan input
    by_plan (Err fault) is_fault bad = absurd (bad_text_is_not_done answer _ bad refl done)
    by_plan (Ok plan) is_plan answers = by_found plan is_plan answers.found answers.is_found answers.answers

    by_length : (long : Bool) → MatchBool long (answer ≡ input_too_long) (AnswersReading Sizes (plan_of input) answer) → IsSafePlan input
    by_length true too_long = absurd (bad_text_is_not_done answer input_too_long too_long refl done)
    by_length false answers = by_plan (plan_of input) refl answers

-- the input's plan, and the bundle that was fitted to it
pub record IsFittedTo (input text : List ℕ) : Type 0 where
  pub plan : Plan
  pub is_plan : plan_of input ≡ Ok plan
  pub bundle : IsFittedBundle plan text

pub bundle_means_fitted : (input : List ℕ) (answer : Answer) → IsFitAnswer Bundle input answer → answer.status ≡ Done → IsFittedTo input answer.text
bundle_means_fitted input answer is done = by_length (nat_lt MAX_INPUT_BYTES (length input)) is
  where
    by_found : (plan : Plan) → plan_of input ≡ Ok plan → (found : SizesFound) → IsFound plan found → AreEffective found → AnswersFound Bundle plan found answer → IsFittedTo input answer.text
    by_found plan is_plan (NotFound cause) is_cause effective is = absurd (refused_is_not_done answer (no_sizes_answer plan cause) is refl done)
    by_found plan is_plan (Found fit cert) sized effective (inl long) = absurd (refused_is_not_done answer text_too_long long.0 refl done)
    by_found plan is_plan (Found fit cert) sized effective (inr bundled) =
        record { plan = plan; is_plan = is_plan; bundle = record { cert = cert; fit = fit; is_sized = sized; effective = effective; bundle = bundled.bundle } }

    by_plan : (read : Result Plan PlanFault) → plan_of input ≡ read → AnswersReading Bundle read answer → IsFittedTo input answer.text
    by_plan (Err fault) is_fault bad = absurd (bad_text_is_not_done answer _ bad refl done)
    by_plan (Ok plan) is_plan answers = by_found plan is_plan answers.found answers.is_found answers.effective answers.answers

    by_length : (long : Bool) → MatchBool long (answer ≡ input_too_long) (AnswersReading Bundle (plan_of input) answer) → IsFittedTo input answer.text
    by_length true too_long = absurd (bad_text_is_not_done answer input_too_long too_long refl done)
    by_length false answers = by_plan (plan_of input) refl answers
