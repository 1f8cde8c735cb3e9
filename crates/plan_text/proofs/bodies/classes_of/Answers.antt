use Rattle.std.proofs.Common.{◌≡◌, ◌∙◌, ◌+◌, ◌++◌, ◌∷◌, [], ℕ, List, length, slice_get, Some, Ok, refl, ap, sym, subst, append_assoc, arith}
use Rattle.std.proofs.lemmas.List.{append-nil, nil_from_length}
use Rattle.std.proofs.lemmas.Result.{err_from_is_err_and}
use Rattle.support.specs.Results.{Fails}
use Rattle.support.proofs.Loops.{Reads, reads_begin, reads_more, reads_stop, reads_end}
use Rattle.job_bodies.specs.Plan.{Class}
use Rattle.plan_text.specs.Bodies.{class_of}
use Rattle.plan_text.specs.Entries.{ClassEntry}
use Rattle.plan_text.proofs.bodies.classes_of.Goals as goal

there : {X : Type 0} (xs ys : List X) (x : X) → slice_get (xs ++ x ∷ ys) (length xs) ≡ Some x
there [] ys x = refl
there (z ∷ xs) ys x = there xs ys x

one_longer : {X : Type 0} (xs : List X) (x : X) → length (xs ++ x ∷ []) ≡ length xs + 1
one_longer [] x = refl
one_longer (z ∷ xs) x = omega (arith, one_longer xs x)

pub loop-entry-init : goal.loop-entry-init
loop-entry-init c = record {
  many = ap length c.new-classes.ensures.items;
  front = sym c.into_iter-entry-iterator.ensures.into_iter_gives.0;
  read = rw c.new-classes.ensures.items (reads_begin _ _);
}

pub loop-entry-preserved : goal.loop-entry-preserved
loop-entry-preserved c =
    let all = c.args.entries.items in
    let xs = c.loop-entry.yielded in
    let x = c.in-Some.entry in
    let prior = c.loop-entry.invariant in
    let front : all ≡ xs ++ x ∷ c.next.new.self.rest.items = prior.front ∙ ap (λ (ys : List ClassEntry). xs ++ ys) c.in-Some.ensures.steps.0 in
    let here : slice_get all (length xs) ≡ Some x = ap (λ (ys : List ClassEntry). slice_get ys (length xs)) front ∙ there xs c.next.new.self.rest.items x in
    let place : c.len.result ≡ length xs = omega (arith, c.len.ensures, c.loop-entry.classes.ok, prior.many) in
    let given : class_of c.args.pools.now c.args.names.now (length xs) x ≡ Ok c.in_ok-class.class =
    subst (λ (n : ℕ). class_of c.args.pools.now c.args.names.now n x ≡ Ok c.in_ok-class.class) place c.in_ok-class.ensures in
    let read = reads_more (class_of c.args.pools.now c.args.names.now) all (length xs) c.loop-entry.classes.items x c.in_ok-class.class here given prior.read in
    record {
      many = ap length c.in_ok-push.ensures.items ∙ (one_longer c.loop-entry.classes.items c.in_ok-class.class ∙ (ap (λ (n : ℕ). n + 1) prior.many ∙ sym (one_longer xs x)));
      front = front ∙ sym (append_assoc xs (x ∷ []) c.next.new.self.rest.items);
      read = subst (λ (n : ℕ). Reads (class_of c.args.pools.now c.args.names.now) all n c.push.new.self.items) (sym (one_longer xs x))
          (subst (λ (ys : List Class). Reads (class_of c.args.pools.now c.args.names.now) all (length xs + 1) ys) (sym c.in_ok-push.ensures.items) read);
    }

pub returns-in_err-class : goal.returns-in_err-class
returns-in_err-class c =
    let all = c.args.entries.items in
    let xs = c.loop-entry.yielded in
    let x = c.in-Some.entry in
    let prior = c.loop-entry.invariant in
    let front : all ≡ xs ++ x ∷ c.next.new.self.rest.items = prior.front ∙ ap (λ (ys : List ClassEntry). xs ++ ys) c.in-Some.ensures.steps.0 in
    let here : slice_get all (length xs) ≡ Some x = ap (λ (ys : List ClassEntry). slice_get ys (length xs)) front ∙ there xs c.next.new.self.rest.items x in
    let place : c.len.result ≡ length xs = omega (arith, c.len.ensures, c.loop-entry.classes.ok, prior.many) in
    let failed = subst (λ (n : ℕ). Fails c.in_err-class.field-0.0 (class_of c.args.pools.now c.args.names.now n x)) place c.in_err-class.ensures in
    let p = err_from_is_err_and c.from_residual.result c.from_residual.ensures.1 in
    rw (p.1, p.2) (reads_stop _ _ _ _ _ _ here failed prior.read)

pub returns : goal.returns
returns c =
    let all = c.args.entries.items in
    let xs = c.loop-entry.yielded in
    let rest = c.loop-entry.entry-iterator.rest in
    let none : rest.items ≡ [] = nil_from_length rest.items (sym rest.ok.0 ∙ c.in-None.ensures.steps.0) in
    let whole : all ≡ xs = c.loop-entry.invariant.front ∙ (ap (λ (ys : List ClassEntry). xs ++ ys) none ∙ append-nil xs) in
    reads_end (class_of c.args.pools.now c.args.names.now) all (length xs) c.loop-entry.classes.items (omega (arith, ap length whole)) c.loop-entry.invariant.read
