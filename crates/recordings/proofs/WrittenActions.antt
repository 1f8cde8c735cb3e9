-- If a text parses as a line of an actor, it is the text of the line.
use Rattle.std.proofs.Common.{◌≡◌, ℕ, true, List, [], ◌∷◌, ◌++◌, codes, decimal, Some, refl, ap, ap₂, subst, ◌∙◌}
use Rattle.std.specs.List.{join_with_byte}
use Rattle.std.proofs.lemmas.Bool.{and_from}
use Rattle.std.proofs.lemmas.Option.{none-some, same_Some}
use Rattle.support.specs.Pieces.{split_space}
use Rattle.support.specs.LineNumber.{number_of, is_valid_number}
use Rattle.support.proofs.FirstSpace.{split_parts}
use Rattle.support.proofs.WrittenNumbers.{number_read}
use Rattle.recordings.specs.declared.recording_line.RecordedActor.{RecordedActor}
use Rattle.recordings.specs.declared.recording_line.RecordedActor.TheVariants.{Job, Round}
use Rattle.recordings.specs.Words.{◌>>=◌, name_of}
use Rattle.recordings.specs.RecordingLine.{RecordedLine, RoundBegins, RoundEnds, Refused, JobStarts, JobEnds, JobThrew, Got, TimedOut, Interrupted, Cancels, InvokesAny, job_action_of, submit_of, action_of, job_line_of, round_line_of}
use Rattle.recordings.specs.LineText.{actor_words, after_actor, line_text, is_valid_actor, is_valid_line}
use Rattle.recordings.proofs.WordByWord.{bind_some, by_word, name_read, number_then_read, name_then_read}

-- the line is valid, and the text is the line's text
abbrev pub IsLine : List ℕ → RecordedLine → Type 0
IsLine text line = (is_valid_line line ≡ true) × (text ≡ line_text line)

-- ---- the words after an actor
-- the text of an actor and further words is the two words of the actor followed by these words
pub after_is : (actor : RecordedActor) (word : List ℕ) (words : List (List ℕ)) → after_actor actor (join_with_byte 32 (word ∷ words)) ≡ join_with_byte 32 (actor_words actor (word ∷ words))
after_is (Job n) word words = refl
after_is (Round n) word words = refl

-- ---- the parsed line
step_read : (actor : RecordedActor) (word : List ℕ) (job : ℕ) (line : RecordedLine) → is_valid_actor actor ≡ true → is_valid_number job ≡ true → job_action_of actor word job ≡ Some line
    → IsLine (after_actor actor (word ++ 32 ∷ decimal job)) line
unfolding job_action_of
step_read actor word job line whose valid read =
    by_word word (codes "got") _ _ line read (said (codes "got") (Got actor job) (and_from _ _ whose valid) (after_is actor (codes "got") (decimal job ∷ [])))
    (λ read. by_word word (codes "refused") _ _ line read (said (codes "refused") (Refused actor job) (and_from _ _ whose valid) (after_is actor (codes "refused") (decimal job ∷ [])))
    (λ read. by_word word (codes "timeout") _ _ line read (said (codes "timeout") (TimedOut actor job) (and_from _ _ whose valid) (after_is actor (codes "timeout") (decimal job ∷ [])))
    (λ read. by_word word (codes "interrupted") _ _ line read (said (codes "interrupted") (Interrupted actor job) (and_from _ _ whose valid) (after_is actor (codes "interrupted") (decimal job ∷ [])))
    (λ read. by_word word (codes "cancel") _ _ line read (said (codes "cancel") (Cancels actor job) (and_from _ _ whose valid) (after_is actor (codes "cancel") (decimal job ∷ [])))
    (λ none. absurd (none-some line none))))))
  where
    said : (key : List ℕ) (one : RecordedLine) → is_valid_line one ≡ true → after_actor actor (key ++ 32 ∷ decimal job) ≡ line_text one → word ≡ key → Some one ≡ Some line
        → IsLine (after_actor actor (word ++ 32 ∷ decimal job)) line
    said key one good text is same =
        subst (λ (l : RecordedLine). IsLine (after_actor actor (word ++ 32 ∷ decimal job)) l) (same_Some one line same)
        (good, ap (λ (w : List ℕ). after_actor actor (w ++ 32 ∷ decimal job)) is ∙ text)

submit_read : (actor : RecordedActor) (text : List ℕ) (line : RecordedLine) → is_valid_actor actor ≡ true → submit_of actor text ≡ Some line → IsLine (after_actor actor (codes "submit" ++ 32 ∷ text)) line
unfolding submit_of
submit_read actor text line whose read =
    let job = bind_some _ _ line read in
    let class = bind_some _ _ line job.2 in
    let pool = bind_some _ _ line class.2 in
    let number = number_then_read text job.0 job.1 in
    let label = name_then_read job.0.1 class.0 class.1 in
    let name = name_read class.0.1 pool.0 pool.1 in
    let whole : text ≡ decimal job.0.0 ++ 32 ∷ (class.0.0 ++ 32 ∷ pool.0) =
    number.1 ∙ ap (λ (r : List ℕ). decimal job.0.0 ++ 32 ∷ r) (label.1 ∙ ap (λ (r : List ℕ). class.0.0 ++ 32 ∷ r) name.1) in
    subst (λ (l : RecordedLine). IsLine (after_actor actor (codes "submit" ++ 32 ∷ text)) l) (same_Some _ line pool.2) (
      and_from _ _ (and_from _ _ (and_from _ _ whose number.0) label.0) name.0,
      ap (λ (t : List ℕ). after_actor actor (codes "submit" ++ 32 ∷ t)) whole ∙ after_is actor (codes "submit") (decimal job.0.0 ∷ class.0.0 ∷ pool.0 ∷ []),
    )

act_read : (actor : RecordedActor) (word rest : List ℕ) (line : RecordedLine) → is_valid_actor actor ≡ true → action_of actor word rest ≡ Some line → IsLine (after_actor actor (word ++ 32 ∷ rest)) line
unfolding action_of
act_read actor word rest line whose read =
    by_word word (codes "submit") _ _ line read
    (λ is read. at_word (codes "submit") is (submit_read actor rest line whose read))
    (λ read. by_word word (codes "any") _ _ line read (λ is read. at_word (codes "any") is (any read))
    (λ read. let job = bind_some (number_of rest) (λ job. job_action_of actor word job) line read in
    let number = number_read rest job.0 job.1 in
    let found = step_read actor word job.0 line whose number.0 job.2 in
    (found.0, ap (λ (r : List ℕ). after_actor actor (word ++ 32 ∷ r)) number.1 ∙ found.1)))
  where
    at_word : (key : List ℕ) → word ≡ key → IsLine (after_actor actor (key ++ 32 ∷ rest)) line → IsLine (after_actor actor (word ++ 32 ∷ rest)) line
    at_word key is found = (found.0, ap (λ (w : List ℕ). after_actor actor (w ++ 32 ∷ rest)) is ∙ found.1)

    any : (name_of rest >>= λ pool. Some (InvokesAny actor pool)) ≡ Some line → IsLine (after_actor actor (codes "any" ++ 32 ∷ rest)) line
    any read =
        let pool = bind_some (name_of rest) (λ pool. Some (InvokesAny actor pool)) line read in
        let name = name_read rest pool.0 pool.1 in
        subst (λ (l : RecordedLine). IsLine (after_actor actor (codes "any" ++ 32 ∷ rest)) l) (same_Some _ line pool.2)
        (and_from _ _ whose name.0, ap (λ (r : List ℕ). after_actor actor (codes "any" ++ 32 ∷ r)) name.1 ∙ after_is actor (codes "any") (pool.0 ∷ []))

-- a line of one word after an actor has this text
alone : (actor : RecordedActor) (text key : List ℕ) (one line : RecordedLine) → is_valid_line one ≡ true → after_actor actor key ≡ line_text one → text ≡ key → Some one ≡ Some line → IsLine (after_actor actor text) line
alone actor text key one line good written is same =
    subst (λ (l : RecordedLine). IsLine (after_actor actor text) l) (same_Some one line same) (good, ap (after_actor actor) is ∙ written)

-- a line of several words after an actor has this text
more : (actor : RecordedActor) (text : List ℕ) (words : List ℕ × List ℕ) (line : RecordedLine) → split_space text ≡ Some words → IsLine (after_actor actor (words.0 ++ 32 ∷ words.1)) line → IsLine (after_actor actor text) line
more actor text words line split found = (found.0, ap (after_actor actor) (split_parts text words split) ∙ found.1)

pub job_line_read : (job : ℕ) (text : List ℕ) (line : RecordedLine) → is_valid_number job ≡ true → job_line_of job text ≡ Some line → IsLine (after_actor (Job job) text) line
unfolding job_line_of
job_line_read job text line valid read =
    by_word text (codes "start") _ _ line read (alone (Job job) text (codes "start") (JobStarts job) line valid refl)
    (λ read. by_word text (codes "end") _ _ line read (alone (Job job) text (codes "end") (JobEnds job) line valid refl)
    (λ read. by_word text (codes "threw") _ _ line read (alone (Job job) text (codes "threw") (JobThrew job) line valid refl)
    (λ read. let words = bind_some (split_space text) (λ words. action_of (Job job) words.0 words.1) line read in
    more (Job job) text words.0 line words.1 (act_read (Job job) words.0.0 words.0.1 line valid words.2))))

pub round_line_read : (round : ℕ) (text : List ℕ) (line : RecordedLine) → is_valid_number round ≡ true → round_line_of round text ≡ Some line → IsLine (after_actor (Round round) text) line
unfolding round_line_of
round_line_read round text line valid read =
    by_word text (codes "end") _ _ line read (alone (Round round) text (codes "end") (RoundEnds round) line valid refl)
    (λ read. let words = bind_some _ _ line read in
    more (Round round) text words.0 line words.1
    (by_word words.0.0 (codes "begin") _ _ line words.2 (λ is read. begins words.0.0 words.0.1 is read) (λ read. act_read (Round round) words.0.0 words.0.1 line valid read)))
  where
    begins : (word rest : List ℕ) → word ≡ codes "begin" → (name_of rest >>= λ kind. Some (RoundBegins round kind)) ≡ Some line → IsLine (after_actor (Round round) (word ++ 32 ∷ rest)) line
    begins word rest is read =
        let kind = bind_some (name_of rest) (λ kind. Some (RoundBegins round kind)) line read in
        let name = name_read rest kind.0 kind.1 in
        subst (λ (l : RecordedLine). IsLine (after_actor (Round round) (word ++ 32 ∷ rest)) l) (same_Some _ line kind.2)
        (and_from _ _ valid name.0, ap₂ (λ (w r : List ℕ). after_actor (Round round) (w ++ 32 ∷ r)) is name.1)
