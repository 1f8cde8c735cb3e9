-- Lemmas about the content of a line, by its verb.
use Rattle.std.proofs.Common.{◌≡◌, ◌≢◌, ℕ, true, List, [], ◌∷◌, ◌++◌, drop, codes, Option, Some, None, option_map, refl, ap, ◌∙◌, append_assoc}
use Rattle.job_bodies.specs.Plan.{Plan}
use Rattle.pool_machine.specs.declared.event.Event.{Event}
use Rattle.pool_machine.specs.declared.event.Event.TheVariants.{Client, Job, Take, Retire}
use Rattle.support.specs.Pieces.{first_line, after_line}
use Rattle.support.specs.LineNumber.{number_of, split_number_line}
use Rattle.interleaving.specs.Words.{members_in}
use Rattle.interleaving.specs.EventLine.{Line, Perform, Stuck, pool_named, event_of, stuck_of, line_of_verb, line_of, split_event_line}
use Rattle.interleaving.specs.LineText.{line_text}
use Rattle.support.proofs.Splits.{has_no}
use Rattle.support.proofs.FirstPieces.{place, first_after, first_and_more}
use Rattle.interleaving.proofs.WrittenLines.{by_verb, read_line_is_text}

-- ---- a whole line
client_line : (plan : Plan) (number : List ℕ) → line_of plan (codes "client " ++ number) ≡ option_map Perform (option_map (λ n. Client n) (number_of number))
unfolding line_of_verb event_of
client_line plan number = by_verb plan (codes "client") number refl

job_line : (plan : Plan) (number : List ℕ) → line_of plan (codes "job " ++ number) ≡ option_map Perform (option_map (λ n. Job n) (number_of number))
unfolding line_of_verb event_of
job_line plan number = by_verb plan (codes "job") number refl

pub take_line : (plan : Plan) (line name : List ℕ) → line ≡ codes "take " ++ name → line_of plan line ≡ option_map Perform (option_map (λ p. Take p) (pool_named plan name))
unfolding line_of_verb event_of
take_line plan line name is = ap (line_of plan) is ∙ by_verb plan (codes "take") name refl

pub retire_line : (plan : Plan) (line name : List ℕ) → line ≡ codes "retire " ++ name → line_of plan line ≡ option_map Perform (option_map (λ p. Retire p) (pool_named plan name))
unfolding line_of_verb event_of
retire_line plan line name is = ap (line_of plan) is ∙ by_verb plan (codes "retire") name refl

pub stuck_line : (plan : Plan) (line words : List ℕ) → line ≡ codes "stuck " ++ words → line_of plan line ≡ option_map Stuck (members_in words)
unfolding line_of_verb stuck_of
stuck_line plan line words is = ap (line_of plan) is ∙ by_verb plan (codes "stuck") words refl

-- the line does not begin with this prefix
abbrev pub LacksPrefix : List ℕ → List ℕ → Type 0
LacksPrefix front line = (rest : List ℕ) → line ≢ front ++ rest

-- a line that begins with none of the five verbs is malformed
pub no_line : (plan : Plan) (line : List ℕ) → LacksPrefix (codes "client ") line → LacksPrefix (codes "job ") line → LacksPrefix (codes "take ") line → LacksPrefix (codes "retire ") line
    → LacksPrefix (codes "stuck ") line → None ≡ line_of plan line
no_line plan line client job take retire stuck = by_read (line_of plan line) refl
  where
    by_text : (said : Line) → line_of plan line ≡ Some said → line ≡ line_text plan said → ⊥
    by_text (Perform (Client n)) read is = client _ is
    by_text (Perform (Job n)) read is = job _ is
    by_text (Perform (Take p)) read is = take _ is
    by_text (Perform (Retire p)) read is = retire _ is
    by_text (Stuck []) read is = absurd (cc ((read_line_is_text plan line (Stuck []) read).0))
    by_text (Stuck (n ∷ members)) read is = stuck _ is

    by_read : (o : Option Line) → line_of plan line ≡ o → None ≡ o
    by_read None read = refl
    by_read (Some said) read = absurd (by_text said read (read_line_is_text plan line said read).1)

-- ---- the first line of a text
-- the content of a first line that names a client or a job, given the number that is the rest of the line
actor_line : (plan : Plan) (text word number : List ℕ) (event : ℕ → Event) → text ≡ word ++ number → has_no 10 word ≡ true
    → line_of plan (word ++ first_line number) ≡ option_map Perform (option_map event (number_of (first_line number)))
    → split_event_line plan text ≡ option_map {U = Line × List ℕ} (λ read. (Perform (event read.0), read.1)) (split_number_line number)
actor_line plan text word number event is plain said =
    let first = first_after word number plain in
    let line : line_of plan (first_line text) ≡ option_map Perform (option_map event (number_of (first_line number))) = ap (λ (t : List ℕ). line_of plan (first_line t)) is ∙ ap (line_of plan) first.0 ∙ said in
    let behind : after_line text ≡ after_line number = ap after_line is ∙ first.1 in
    rw (line, behind) (by_number (number_of (first_line number)) (after_line number))
  where
    by_number : (o : Option ℕ) (rest : List ℕ) → option_map {U = Line × List ℕ} (λ line. (line, rest)) (option_map Perform (option_map event o)) ≡ option_map {U = Line × List ℕ} (λ read. (Perform (event read.0), read.1)) (option_map {U = ℕ × List ℕ} (λ n. (n, rest)) o)
    by_number None rest = refl
    by_number (Some n) rest = refl

pub client_first : (plan : Plan) (text number : List ℕ) → text ≡ codes "client " ++ number → split_event_line plan text ≡ option_map {U = Line × List ℕ} (λ read. (Perform (Client read.0), read.1)) (split_number_line number)
client_first plan text number is = actor_line plan text (codes "client ") number (λ n. Client n) is refl (client_line plan (first_line number))

pub job_first : (plan : Plan) (text number : List ℕ) → text ≡ codes "job " ++ number → split_event_line plan text ≡ option_map {U = Line × List ℕ} (λ read. (Perform (Job read.0), read.1)) (split_number_line number)
job_first plan text number is = actor_line plan text (codes "job ") number (λ n. Job n) is refl (job_line plan (first_line number))

-- if a text does not begin with a prefix, its first line does not begin with it
pub first_otherwise : (front text : List ℕ) → LacksPrefix front text → LacksPrefix front (first_line text)
first_otherwise front text other = λ rest is. other (rest ++ drop (place 10 text) text) (first_and_more text ∙ ap (λ (l : List ℕ). l ++ drop (place 10 text) text) is ∙ append_assoc front rest (drop (place 10 text) text))
