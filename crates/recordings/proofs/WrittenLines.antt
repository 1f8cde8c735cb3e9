-- A text parses as a line if and only if the line is valid and the text is the line's text.
use Rattle.std.proofs.Common.{◌≡◌, ◌&&◌, ℕ, true, false, cond, List, [], ◌∷◌, ◌++◌, codes, decimal, bytes_eq, Some, None, refl, sym, ap, subst, ◌∙◌}
use Rattle.std.specs.List.{join_with_byte}
use Rattle.std.proofs.lemmas.Bool.{and_parts, and_from}
use Rattle.std.proofs.lemmas.Option.{none-some, same_Some}
use Rattle.job_bodies.specs.WellFormed.{is_valid_name}
use Rattle.support.specs.Pieces.{split_space}
use Rattle.support.specs.LineNumber.{number_of, is_valid_number}
use Rattle.support.proofs.FirstSpace.{splits, split_parts}
use Rattle.support.proofs.Splits.{has_no}
use Rattle.support.proofs.WrittenNumbers.{number_read, number_written}
use Rattle.recordings.specs.declared.recording_line.RecordedActor.{RecordedActor}
use Rattle.recordings.specs.declared.recording_line.RecordedActor.TheVariants.{Job, Round}
use Rattle.recordings.specs.Words.{◌>>=◌, name_of, parse_number, parse_name}
use Rattle.recordings.specs.PoolSizes.{pool_sizes_of}
use Rattle.recordings.specs.RecordingLine.{RecordedLine, Head, Pool, RoundBegins, RoundEnds, Submits, Refused, JobStarts, JobEnds, JobThrew, Got, TimedOut, Interrupted, Cancels, InvokesAny, Removed, ShutDown, Unseen, End, job_action_of, submit_of, action_of, job_line_of, round_line_of, other_line_of, line_of_words, line_of}
use Rattle.recordings.specs.LineText.{sizes_words, actor_words, after_actor, line_text, is_valid_actor, has_valid_numbers, is_valid_line}
use Rattle.recordings.specs.Laws.{RecordingLinesAreCanonical}
use Rattle.recordings.proofs.WordByWord.{bind_some, bind_written, by_word, name_read, name_written, number_then_read, number_then_written, name_then_read, name_then_written}
use Rattle.recordings.proofs.WrittenPools.{pool_sizes_read, pool_sizes_written}
use Rattle.recordings.proofs.WrittenActions.{IsLine, after_is, job_line_read, round_line_read}

-- ---- the parsed line
pool_read : (rest : List ℕ) (line : RecordedLine) → (parse_name rest >>= λ name. pool_sizes_of name.1 >>= λ sizes. Some (Pool name.0 sizes)) ≡ Some line → IsLine (codes "pool" ++ 32 ∷ rest) line
pool_read rest line read =
    let name = bind_some (parse_name rest) (λ name. pool_sizes_of name.1 >>= λ sizes. Some (Pool name.0 sizes)) line read in
    let sizes = bind_some (pool_sizes_of name.0.1) (λ sizes. Some (Pool name.0.0 sizes)) line name.2 in
    let front = name_then_read rest name.0 name.1 in
    let back = pool_sizes_read name.0.1 sizes.0 sizes.1 in
    subst (λ (l : RecordedLine). IsLine (codes "pool" ++ 32 ∷ rest) l) (same_Some _ line sizes.2)
    (and_from _ _ front.0 back.0, ap (λ (r : List ℕ). codes "pool" ++ 32 ∷ r) (front.1 ∙ ap (λ (r : List ℕ). name.0.0 ++ 32 ∷ r) back.1))

head_read : (rest : List ℕ) (line : RecordedLine) → cond (bytes_eq rest (codes "1")) (Some Head) None ≡ Some line → IsLine (codes "recording" ++ 32 ∷ rest) line
head_read rest line read =
    by_word rest (codes "1") _ _ line read
    (λ is same. subst (λ (l : RecordedLine). IsLine (codes "recording" ++ 32 ∷ rest) l) (same_Some _ line same) (refl, ap (λ (r : List ℕ). codes "recording" ++ 32 ∷ r) is))
    (λ none. absurd (none-some line none))

removed_read : (rest : List ℕ) (line : RecordedLine) → (number_of rest >>= λ job. Some (Removed job)) ≡ Some line → IsLine (codes "removed" ++ 32 ∷ rest) line
removed_read rest line read =
    let job = bind_some (number_of rest) (λ job. Some (Removed job)) line read in
    let number = number_read rest job.0 job.1 in
    subst (λ (l : RecordedLine). IsLine (codes "removed" ++ 32 ∷ rest) l) (same_Some _ line job.2) (number.0, ap (λ (r : List ℕ). codes "removed" ++ 32 ∷ r) number.1)

shut_down_read : (rest : List ℕ) (line : RecordedLine) → (name_of rest >>= λ pool. Some (ShutDown pool)) ≡ Some line → IsLine (codes "shutdown" ++ 32 ∷ rest) line
shut_down_read rest line read =
    let pool = bind_some (name_of rest) (λ pool. Some (ShutDown pool)) line read in
    let name = name_read rest pool.0 pool.1 in
    subst (λ (l : RecordedLine). IsLine (codes "shutdown" ++ 32 ∷ rest) l) (same_Some _ line pool.2) (name.0, ap (λ (r : List ℕ). codes "shutdown" ++ 32 ∷ r) name.1)

unseen_read : (rest : List ℕ) (line : RecordedLine) → (parse_name rest >>= λ pool. number_of pool.1 >>= λ jobs. Some (Unseen pool.0 jobs)) ≡ Some line → IsLine (codes "unseen" ++ 32 ∷ rest) line
unseen_read rest line read =
    let pool = bind_some (parse_name rest) (λ pool. number_of pool.1 >>= λ jobs. Some (Unseen pool.0 jobs)) line read in
    let jobs = bind_some (number_of pool.0.1) (λ jobs. Some (Unseen pool.0.0 jobs)) line pool.2 in
    let front = name_then_read rest pool.0 pool.1 in
    let back = number_read pool.0.1 jobs.0 jobs.1 in
    subst (λ (l : RecordedLine). IsLine (codes "unseen" ++ 32 ∷ rest) l) (same_Some _ line jobs.2)
    (and_from _ _ front.0 back.0, ap (λ (r : List ℕ). codes "unseen" ++ 32 ∷ r) (front.1 ∙ ap (λ (r : List ℕ). pool.0.0 ++ 32 ∷ r) back.1))

-- a line parses correctly if its first word is `key`
at_word : (word key rest : List ℕ) (line : RecordedLine) → word ≡ key → IsLine (key ++ 32 ∷ rest) line → IsLine (word ++ 32 ∷ rest) line
at_word word key rest line is found = (found.0, ap (λ (w : List ℕ). w ++ 32 ∷ rest) is ∙ found.1)

other_read : (word rest : List ℕ) (line : RecordedLine) → other_line_of word rest ≡ Some line → IsLine (word ++ 32 ∷ rest) line
unfolding other_line_of
other_read word rest line read =
    by_word word (codes "pool") _ _ line read (λ is read. at_word word (codes "pool") rest line is (pool_read rest line read))
    (λ read. by_word word (codes "recording") _ _ line read (λ is read. at_word word (codes "recording") rest line is (head_read rest line read))
    (λ read. by_word word (codes "removed") _ _ line read (λ is read. at_word word (codes "removed") rest line is (removed_read rest line read))
    (λ read. by_word word (codes "shutdown") _ _ line read (λ is read. at_word word (codes "shutdown") rest line is (shut_down_read rest line read))
    (λ read. by_word word (codes "unseen") _ _ line read (λ is read. at_word word (codes "unseen") rest line is (unseen_read rest line read))
    (λ none. absurd (none-some line none))))))

job_read : (rest : List ℕ) (line : RecordedLine) → (parse_number rest >>= λ job. job_line_of job.0 job.1) ≡ Some line → IsLine (codes "job" ++ 32 ∷ rest) line
job_read rest line read =
    let job = bind_some (parse_number rest) (λ job. job_line_of job.0 job.1) line read in
    let number = number_then_read rest job.0 job.1 in
    let found = job_line_read job.0.0 job.0.1 line number.0 job.2 in
    (found.0, ap (λ (r : List ℕ). codes "job" ++ 32 ∷ r) number.1 ∙ found.1)

round_read : (rest : List ℕ) (line : RecordedLine) → (parse_number rest >>= λ round. round_line_of round.0 round.1) ≡ Some line → IsLine (codes "round" ++ 32 ∷ rest) line
round_read rest line read =
    let round = bind_some (parse_number rest) (λ round. round_line_of round.0 round.1) line read in
    let number = number_then_read rest round.0 round.1 in
    let found = round_line_read round.0.0 round.0.1 line number.0 round.2 in
    (found.0, ap (λ (r : List ℕ). codes "round" ++ 32 ∷ r) number.1 ∙ found.1)

words_read : (word rest : List ℕ) (line : RecordedLine) → line_of_words word rest ≡ Some line → IsLine (word ++ 32 ∷ rest) line
unfolding line_of_words
words_read word rest line read =
    by_word word (codes "job") _ _ line read (λ is read. at_word word (codes "job") rest line is (job_read rest line read))
    (λ read. by_word word (codes "round") _ _ line read (λ is read. at_word word (codes "round") rest line is (round_read rest line read))
    (λ read. other_read word rest line read))

read_line_is_text : (text : List ℕ) (line : RecordedLine) → line_of text ≡ Some line → IsLine text line
unfolding line_of
read_line_is_text text line read =
    by_word text (codes "end") _ _ line read (λ is same. subst (λ (l : RecordedLine). IsLine text l) (same_Some _ line same) (refl, is))
    (λ read. let words = bind_some (split_space text) (λ words. line_of_words words.0 words.1) line read in
    let found = words_read words.0.0 words.0.1 line words.2 in
    (found.0, split_parts text words.0 words.1 ∙ found.1))

-- ---- the written line
-- a line of several words parses by its first word, which has no space
by_first : (word rest : List ℕ) → has_no 32 word ≡ true → bytes_eq (word ++ 32 ∷ rest) (codes "end") ≡ false → line_of (word ++ 32 ∷ rest) ≡ line_of_words word rest
unfolding line_of
by_first word rest none other =
    ap (λ b. cond b (Some End) (split_space (word ++ 32 ∷ rest) >>= λ words. line_of_words words.0 words.1)) other
    ∙ ap (λ o. o >>= λ words. line_of_words words.0 words.1) (splits word rest none)

job_first : (job : ℕ) (text : List ℕ) → is_valid_number job ≡ true → line_of (codes "job" ++ 32 ∷ (decimal job ++ 32 ∷ text)) ≡ job_line_of job text
unfolding line_of_words
job_first job text valid = by_first (codes "job") (decimal job ++ 32 ∷ text) refl refl ∙ ap (λ o. o >>= λ job. job_line_of job.0 job.1) (number_then_written job text valid)

round_first : (round : ℕ) (text : List ℕ) → is_valid_number round ≡ true → line_of (codes "round" ++ 32 ∷ (decimal round ++ 32 ∷ text)) ≡ round_line_of round text
unfolding line_of_words
round_first round text valid = by_first (codes "round") (decimal round ++ 32 ∷ text) refl refl ∙ ap (λ o. o >>= λ round. round_line_of round.0 round.1) (number_then_written round text valid)

other_first : (word rest : List ℕ) → has_no 32 word ≡ true → bytes_eq (word ++ 32 ∷ rest) (codes "end") ≡ false → bytes_eq word (codes "job") ≡ false → bytes_eq word (codes "round") ≡ false
    → line_of (word ++ 32 ∷ rest) ≡ other_line_of word rest
unfolding line_of_words
other_first word rest none other no_job no_round = by_first word rest none other ∙ rw (no_job, no_round) refl

-- the words after an actor do not begin with `begin`, and are none of `start`, `end` and `threw`
abbrev IsAct : List ℕ → List ℕ → Type 0
IsAct word rest =
    (has_no 32 word ≡ true) × (bytes_eq (word ++ 32 ∷ rest) (codes "start") ≡ false) × (bytes_eq (word ++ 32 ∷ rest) (codes "end") ≡ false) × (bytes_eq (word ++ 32 ∷ rest) (codes "threw") ≡ false)
    × (bytes_eq word (codes "begin") ≡ false)

acts : (actor : RecordedActor) (word rest : List ℕ) → is_valid_actor actor ≡ true → IsAct word rest → line_of (after_actor actor (word ++ 32 ∷ rest)) ≡ action_of actor word rest
unfolding job_line_of round_line_of
acts (Job n) word rest valid is =
    job_first n (word ++ 32 ∷ rest) valid ∙ rw (is.1, is.2, is.3) (ap (λ o. o >>= λ words. action_of (Job n) words.0 words.1) (splits word rest is.0))
acts (Round n) word rest valid is =
    round_first n (word ++ 32 ∷ rest) valid ∙ rw (is.2, splits word rest is.0, is.4) refl

-- a line of an actor parses by the words after the actor
by_actor : (actor : RecordedActor) (line said : RecordedLine) (word : List ℕ) (words : List (List ℕ)) → line_text line ≡ join_with_byte 32 (actor_words actor (word ∷ words))
    → line_of (after_actor actor (join_with_byte 32 (word ∷ words))) ≡ Some said → line_of (line_text line) ≡ Some said
by_actor actor line said word words is read = ap line_of (is ∙ sym (after_is actor word words)) ∙ read

-- the text of an action on a job parses as the action
step_written : (actor : RecordedActor) (word : List ℕ) (job : ℕ) → is_valid_actor actor && is_valid_number job ≡ true → IsAct word (decimal job) → bytes_eq word (codes "submit") ≡ false → bytes_eq word (codes "any") ≡ false
    → line_of (after_actor actor (word ++ 32 ∷ decimal job)) ≡ job_action_of actor word job
unfolding action_of
step_written actor word job valid is no_submit no_any =
    let parts = and_parts (is_valid_actor actor) (is_valid_number job) valid in
    acts actor word (decimal job) parts.0 is ∙ rw (no_submit, no_any, number_written job parts.1) refl

text_reads_as_line : (line : RecordedLine) → is_valid_line line ≡ true → line_of (line_text line) ≡ Some line
unfolding line_of other_line_of job_line_of round_line_of action_of submit_of job_action_of
text_reads_as_line Head valid = other_first (codes "recording") (codes "1") refl refl refl refl
text_reads_as_line (Pool name sizes) valid =
    let parts = and_parts (is_valid_name name) (has_valid_numbers sizes) valid in
    let back : List ℕ = join_with_byte 32 (sizes_words sizes) in
    other_first (codes "pool") (name ++ 32 ∷ back) refl refl refl refl
    ∙ bind_written _ _ (name, back) (Pool name sizes) (name_then_written name back parts.0) (bind_written _ _ sizes (Pool name sizes) (pool_sizes_written sizes parts.1) refl)
text_reads_as_line (RoundBegins round kind) valid =
    let parts = and_parts (is_valid_number round) (is_valid_name kind) valid in
    round_first round (codes "begin" ++ 32 ∷ kind) parts.0 ∙ rw (splits (codes "begin") kind refl, name_written kind parts.1) refl
text_reads_as_line (RoundEnds round) valid = round_first round (codes "end") valid
text_reads_as_line (Submits actor job class pool) valid =
    let last = and_parts (is_valid_actor actor && is_valid_number job && is_valid_name class) (is_valid_name pool) valid in
    let middle = and_parts (is_valid_actor actor && is_valid_number job) (is_valid_name class) last.0 in
    let first = and_parts (is_valid_actor actor) (is_valid_number job) middle.0 in
    let rest : List ℕ = decimal job ++ 32 ∷ (class ++ 32 ∷ pool) in
    by_actor actor (Submits actor job class pool) (Submits actor job class pool) (codes "submit") (decimal job ∷ class ∷ pool ∷ []) refl (acts actor (codes "submit") rest first.0 (refl, refl, refl, refl, refl)
    ∙ rw (number_then_written job (class ++ 32 ∷ pool) first.1, name_then_written class pool middle.1, name_written pool last.1) refl)
text_reads_as_line (Refused actor job) valid =
    by_actor actor (Refused actor job) (Refused actor job) (codes "refused") (decimal job ∷ []) refl (step_written actor (codes "refused") job valid (refl, refl, refl, refl, refl) refl refl)
text_reads_as_line (JobStarts job) valid = job_first job (codes "start") valid
text_reads_as_line (JobEnds job) valid = job_first job (codes "end") valid
text_reads_as_line (JobThrew job) valid = job_first job (codes "threw") valid
text_reads_as_line (Got actor job) valid =
    by_actor actor (Got actor job) (Got actor job) (codes "got") (decimal job ∷ []) refl (step_written actor (codes "got") job valid (refl, refl, refl, refl, refl) refl refl)
text_reads_as_line (TimedOut actor job) valid =
    by_actor actor (TimedOut actor job) (TimedOut actor job) (codes "timeout") (decimal job ∷ []) refl (step_written actor (codes "timeout") job valid (refl, refl, refl, refl, refl) refl refl)
text_reads_as_line (Interrupted actor job) valid =
    by_actor actor (Interrupted actor job) (Interrupted actor job) (codes "interrupted") (decimal job ∷ []) refl (step_written actor (codes "interrupted") job valid (refl, refl, refl, refl, refl) refl refl)
text_reads_as_line (Cancels actor job) valid =
    by_actor actor (Cancels actor job) (Cancels actor job) (codes "cancel") (decimal job ∷ []) refl (step_written actor (codes "cancel") job valid (refl, refl, refl, refl, refl) refl refl)
text_reads_as_line (InvokesAny actor pool) valid =
    let parts = and_parts (is_valid_actor actor) (is_valid_name pool) valid in
    by_actor actor (InvokesAny actor pool) (InvokesAny actor pool) (codes "any") (pool ∷ []) refl (acts actor (codes "any") pool parts.0 (refl, refl, refl, refl, refl) ∙ rw (name_written pool parts.1) refl)
text_reads_as_line (Removed job) valid = other_first (codes "removed") (decimal job) refl refl refl refl ∙ rw (number_written job valid) refl
text_reads_as_line (ShutDown pool) valid = other_first (codes "shutdown") pool refl refl refl refl ∙ rw (name_written pool valid) refl
text_reads_as_line (Unseen pool jobs) valid =
    let parts = and_parts (is_valid_name pool) (is_valid_number jobs) valid in
    other_first (codes "unseen") (pool ++ 32 ∷ decimal jobs) refl refl refl refl ∙ rw (name_then_written pool (decimal jobs) parts.0, number_written jobs parts.1) refl
text_reads_as_line End valid = refl

pub canonical : RecordingLinesAreCanonical
canonical text line = (read_line_is_text text line, λ written. ap line_of written.1 ∙ text_reads_as_line line written.0)
