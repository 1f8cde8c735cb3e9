-- The settings of a pool in a `pool` line parse as a value if and only if they are the text of the value.
use Rattle.std.proofs.Common.{◌≡◌, ◌&&◌, ℕ, Bool, true, false, List, ◌∷◌, ◌++◌, codes, decimal, Some, refl, ap, subst, ◌∙◌}
use Rattle.std.specs.List.{join_with_byte}
use Rattle.std.proofs.lemmas.Bool.{and_parts, and_from}
use Rattle.std.proofs.lemmas.Option.{none-some, same_Some}
use Rattle.support.specs.Pieces.{split_space}
use Rattle.support.specs.LineNumber.{is_valid_number}
use Rattle.support.proofs.FirstSpace.{splits, split_parts}
use Rattle.support.proofs.Splits.{has_no}
use Rattle.recordings.specs.declared.pool_sizes.PoolSizes.{PoolSizes}
use Rattle.recordings.specs.declared.pool_sizes.QueueKind.{QueueKind}
use Rattle.recordings.specs.declared.pool_sizes.QueueKind.TheVariants as queue
use Rattle.recordings.specs.declared.pool_sizes.HandlerKind.{HandlerKind}
use Rattle.recordings.specs.declared.pool_sizes.HandlerKind.TheVariants as handler
use Rattle.recordings.specs.Words.{◌>>=◌, strip_word}
use Rattle.recordings.specs.PoolSizes.{queue_kind_of, handler_kind_of, yes_or_no, parse_queue, parse_timeout, handler_of, pool_sizes_of}
use Rattle.recordings.specs.LineText.{queue_word, handler_word, yes_no_word, sizes_words, has_valid_numbers}
use Rattle.recordings.proofs.WordByWord.{bind_some, bind_written, by_word, after_read, after_written, number_then_read, number_then_written, number_after_read, number_after_written}

-- ---- single words
queue_kind_read : (word : List ℕ) (kind : QueueKind) → queue_kind_of word ≡ Some kind → word ≡ queue_word kind
unfolding queue_kind_of
queue_kind_read word kind read =
    by_word word (codes "array") _ _ kind read (λ is same. is ∙ ap queue_word (same_Some _ kind same))
    (λ read. by_word word (codes "linked") _ _ kind read (λ is same. is ∙ ap queue_word (same_Some _ kind same))
    (λ read. by_word word (codes "synchronous") _ _ kind read (λ is same. is ∙ ap queue_word (same_Some _ kind same))
    (λ read. by_word word (codes "priority") _ _ kind read (λ is same. is ∙ ap queue_word (same_Some _ kind same))
    (λ read. by_word word (codes "other") _ _ kind read (λ is same. is ∙ ap queue_word (same_Some _ kind same))
    (λ none. absurd (none-some kind none))))))

queue_kind_written : (kind : QueueKind) → queue_kind_of (queue_word kind) ≡ Some kind
unfolding queue_kind_of
queue_kind_written queue.Array = refl
queue_kind_written queue.Linked = refl
queue_kind_written queue.Synchronous = refl
queue_kind_written queue.Priority = refl
queue_kind_written queue.Other = refl

queue_word_has_no_space : (kind : QueueKind) → has_no 32 (queue_word kind) ≡ true
queue_word_has_no_space queue.Array = refl
queue_word_has_no_space queue.Linked = refl
queue_word_has_no_space queue.Synchronous = refl
queue_word_has_no_space queue.Priority = refl
queue_word_has_no_space queue.Other = refl

handler_kind_read : (word : List ℕ) (kind : HandlerKind) → handler_kind_of word ≡ Some kind → word ≡ handler_word kind
unfolding handler_kind_of
handler_kind_read word kind read =
    by_word word (codes "abort") _ _ kind read (λ is same. is ∙ ap handler_word (same_Some _ kind same))
    (λ read. by_word word (codes "caller_runs") _ _ kind read (λ is same. is ∙ ap handler_word (same_Some _ kind same))
    (λ read. by_word word (codes "discard") _ _ kind read (λ is same. is ∙ ap handler_word (same_Some _ kind same))
    (λ read. by_word word (codes "discard_oldest") _ _ kind read (λ is same. is ∙ ap handler_word (same_Some _ kind same))
    (λ read. by_word word (codes "other") _ _ kind read (λ is same. is ∙ ap handler_word (same_Some _ kind same))
    (λ none. absurd (none-some kind none))))))

handler_kind_written : (kind : HandlerKind) → handler_kind_of (handler_word kind) ≡ Some kind
unfolding handler_kind_of
handler_kind_written handler.Abort = refl
handler_kind_written handler.CallerRuns = refl
handler_kind_written handler.Discard = refl
handler_kind_written handler.DiscardOldest = refl
handler_kind_written handler.Other = refl

yes_or_no_read : (word : List ℕ) (b : Bool) → yes_or_no word ≡ Some b → word ≡ yes_no_word b
unfolding yes_or_no
yes_or_no_read word b read =
    by_word word (codes "yes") _ _ b read (λ is same. is ∙ ap yes_no_word (same_Some _ b same))
    (λ read. by_word word (codes "no") _ _ b read (λ is same. is ∙ ap yes_no_word (same_Some _ b same)) (λ none. absurd (none-some b none)))

yes_or_no_written : (b : Bool) → yes_or_no (yes_no_word b) ≡ Some b
unfolding yes_or_no
yes_or_no_written true = refl
yes_or_no_written false = refl

yes_no_word_has_no_space : (b : Bool) → has_no 32 (yes_no_word b) ≡ true
yes_no_word_has_no_space true = refl
yes_no_word_has_no_space false = refl

-- ---- pairs of words
queue_then_read : (text : List ℕ) (read : QueueKind × List ℕ) → parse_queue text ≡ Some read → text ≡ codes "queue" ++ 32 ∷ (queue_word read.0 ++ 32 ∷ read.1)
unfolding parse_queue
queue_then_read text read e =
    let rest = bind_some (strip_word (codes "queue") text) (λ rest. split_space rest >>= λ words. queue_kind_of words.0 >>= λ kind. Some (kind, words.1)) read e in
    let words = bind_some (split_space rest.0) (λ words. queue_kind_of words.0 >>= λ kind. Some (kind, words.1)) read rest.2 in
    let kind = bind_some (queue_kind_of words.0.0) (λ kind. Some (kind, words.0.1)) read words.2 in
    let word = queue_kind_read words.0.0 kind.0 kind.1 in
    after_read (codes "queue") text rest.0 rest.1
    ∙ ap (λ (r : List ℕ). codes "queue" ++ 32 ∷ r) (split_parts rest.0 words.0 words.1 ∙ ap (λ (w : List ℕ). w ++ 32 ∷ words.0.1) word)
    ∙ ap (λ (r : QueueKind × List ℕ). codes "queue" ++ 32 ∷ (queue_word r.0 ++ 32 ∷ r.1)) (same_Some (kind.0, words.0.1) read kind.2)

queue_then_written : (kind : QueueKind) (rest : List ℕ) → parse_queue (codes "queue" ++ 32 ∷ (queue_word kind ++ 32 ∷ rest)) ≡ Some (kind, rest)
unfolding parse_queue
queue_then_written kind rest =
    ap (λ o. o >>= λ r. split_space r >>= λ words. queue_kind_of words.0 >>= λ k. Some (k, words.1)) (after_written (codes "queue") (queue_word kind ++ 32 ∷ rest) refl)
    ∙ ap (λ o. o >>= λ words. queue_kind_of words.0 >>= λ k. Some (k, words.1)) (splits (queue_word kind) rest (queue_word_has_no_space kind))
    ∙ ap (λ o. o >>= λ k. Some (k, rest)) (queue_kind_written kind)

timeout_then_read : (text : List ℕ) (read : Bool × List ℕ) → parse_timeout text ≡ Some read → text ≡ codes "timeout" ++ 32 ∷ (yes_no_word read.0 ++ 32 ∷ read.1)
unfolding parse_timeout
timeout_then_read text read e =
    let rest = bind_some (strip_word (codes "timeout") text) (λ rest. split_space rest >>= λ words. yes_or_no words.0 >>= λ b. Some (b, words.1)) read e in
    let words = bind_some (split_space rest.0) (λ words. yes_or_no words.0 >>= λ b. Some (b, words.1)) read rest.2 in
    let answer = bind_some (yes_or_no words.0.0) (λ b. Some (b, words.0.1)) read words.2 in
    let word = yes_or_no_read words.0.0 answer.0 answer.1 in
    after_read (codes "timeout") text rest.0 rest.1
    ∙ ap (λ (r : List ℕ). codes "timeout" ++ 32 ∷ r) (split_parts rest.0 words.0 words.1 ∙ ap (λ (w : List ℕ). w ++ 32 ∷ words.0.1) word)
    ∙ ap (λ (r : Bool × List ℕ). codes "timeout" ++ 32 ∷ (yes_no_word r.0 ++ 32 ∷ r.1)) (same_Some (answer.0, words.0.1) read answer.2)

timeout_then_written : (b : Bool) (rest : List ℕ) → parse_timeout (codes "timeout" ++ 32 ∷ (yes_no_word b ++ 32 ∷ rest)) ≡ Some (b, rest)
unfolding parse_timeout
timeout_then_written b rest =
    ap (λ o. o >>= λ r. split_space r >>= λ words. yes_or_no words.0 >>= λ k. Some (k, words.1)) (after_written (codes "timeout") (yes_no_word b ++ 32 ∷ rest) refl)
    ∙ ap (λ o. o >>= λ words. yes_or_no words.0 >>= λ k. Some (k, words.1)) (splits (yes_no_word b) rest (yes_no_word_has_no_space b))
    ∙ ap (λ o. o >>= λ k. Some (k, rest)) (yes_or_no_written b)

handler_read : (text : List ℕ) (kind : HandlerKind) → handler_of text ≡ Some kind → text ≡ codes "handler" ++ 32 ∷ handler_word kind
unfolding handler_of
handler_read text kind e =
    let word = bind_some (strip_word (codes "handler") text) (λ word. handler_kind_of word) kind e in
    after_read (codes "handler") text word.0 word.1 ∙ ap (λ (w : List ℕ). codes "handler" ++ 32 ∷ w) (handler_kind_read word.0 kind word.2)

handler_written : (kind : HandlerKind) → handler_of (codes "handler" ++ 32 ∷ handler_word kind) ≡ Some kind
unfolding handler_of
handler_written kind = ap (λ o. o >>= λ w. handler_kind_of w) (after_written (codes "handler") (handler_word kind) refl) ∙ handler_kind_written kind

-- ---- all settings
pub pool_sizes_read : (text : List ℕ) (sizes : PoolSizes) → pool_sizes_of text ≡ Some sizes → (has_valid_numbers sizes ≡ true) × (text ≡ join_with_byte 32 (sizes_words sizes))
unfolding pool_sizes_of
pool_sizes_read text sizes e =
    let core = bind_some _ _ sizes e in
    let max = bind_some _ _ sizes core.2 in
    let queue = bind_some _ _ sizes max.2 in
    let capacity = bind_some _ _ sizes queue.2 in
    let timeout = bind_some _ _ sizes capacity.2 in
    let prestarted = bind_some _ _ sizes timeout.2 in
    let handler = bind_some _ _ sizes prestarted.2 in
    let first = number_after_read (codes "core") text core.0 core.1 in
    let second = number_after_read (codes "max") core.0.1 max.0 max.1 in
    let third = queue_then_read max.0.1 queue.0 queue.1 in
    let fourth = number_then_read queue.0.1 capacity.0 capacity.1 in
    let fifth = timeout_then_read capacity.0.1 timeout.0 timeout.1 in
    let sixth = number_after_read (codes "prestarted") timeout.0.1 prestarted.0 prestarted.1 in
    let last = handler_read prestarted.0.1 handler.0 handler.1 in
    subst (λ (s : PoolSizes). (has_valid_numbers s ≡ true) × (text ≡ join_with_byte 32 (sizes_words s))) (same_Some _ sizes handler.2) (
      and_from _ _ (and_from _ _ (and_from _ _ first.0 second.0) fourth.0) sixth.0,
      first.1
          ∙ ap (λ (r : List ℕ). codes "core" ++ 32 ∷ (decimal core.0.0 ++ 32 ∷ r)) (second.1
          ∙ ap (λ (r : List ℕ). codes "max" ++ 32 ∷ (decimal max.0.0 ++ 32 ∷ r)) (third
          ∙ ap (λ (r : List ℕ). codes "queue" ++ 32 ∷ (queue_word queue.0.0 ++ 32 ∷ r)) (fourth.1
          ∙ ap (λ (r : List ℕ). decimal capacity.0.0 ++ 32 ∷ r) (fifth
          ∙ ap (λ (r : List ℕ). codes "timeout" ++ 32 ∷ (yes_no_word timeout.0.0 ++ 32 ∷ r)) (sixth.1
          ∙ ap (λ (r : List ℕ). codes "prestarted" ++ 32 ∷ (decimal prestarted.0.0 ++ 32 ∷ r)) last))))),
    )

pub pool_sizes_written : (sizes : PoolSizes) → has_valid_numbers sizes ≡ true → pool_sizes_of (join_with_byte 32 (sizes_words sizes)) ≡ Some sizes
unfolding pool_sizes_of
pool_sizes_written sizes valid =
    let prestarted = and_parts (is_valid_number sizes.core && is_valid_number sizes.max && is_valid_number sizes.capacity) (is_valid_number sizes.prestarted) valid in
    let capacity = and_parts (is_valid_number sizes.core && is_valid_number sizes.max) (is_valid_number sizes.capacity) prestarted.0 in
    let both = and_parts (is_valid_number sizes.core) (is_valid_number sizes.max) capacity.0 in
    let last : List ℕ = codes "handler" ++ 32 ∷ handler_word sizes.handler in
    let sixth : List ℕ = codes "prestarted" ++ 32 ∷ (decimal sizes.prestarted ++ 32 ∷ last) in
    let fifth : List ℕ = codes "timeout" ++ 32 ∷ (yes_no_word sizes.timeout ++ 32 ∷ sixth) in
    let fourth : List ℕ = decimal sizes.capacity ++ 32 ∷ fifth in
    let third : List ℕ = codes "queue" ++ 32 ∷ (queue_word sizes.queue ++ 32 ∷ fourth) in
    let second : List ℕ = codes "max" ++ 32 ∷ (decimal sizes.max ++ 32 ∷ third) in
    bind_written _ _ (sizes.core, second) sizes (number_after_written (codes "core") sizes.core second refl both.0)
    (bind_written _ _ (sizes.max, third) sizes (number_after_written (codes "max") sizes.max third refl both.1)
    (bind_written _ _ (sizes.queue, fourth) sizes (queue_then_written sizes.queue fourth)
    (bind_written _ _ (sizes.capacity, fifth) sizes (number_then_written sizes.capacity fifth capacity.1)
    (bind_written _ _ (sizes.timeout, sixth) sizes (timeout_then_written sizes.timeout sixth)
    (bind_written _ _ (sizes.prestarted, last) sizes (number_after_written (codes "prestarted") sizes.prestarted last refl prestarted.1)
    (bind_written _ _ sizes.handler sizes (handler_written sizes.handler) refl))))))
