-- The turns and lines of a story as the code holds them, and the lines about pools and jobs as the code computes them from a live
-- view.
use Rattle.std.specs.Prelude.{ℕ, ◌-◌, List, [], ◌++◌, length, map, flat_map, take, drop, string_bytes, Option, Some, None, slice_get}
use Rattle.job_bodies.specs.Plan.{Plan, Pool, class_at}
use Rattle.interleaving.specs.declared.job_view.Phase.{Phase}
use Rattle.interleaving.specs.declared.job_view.Phase.TheVariants as phase
use Rattle.interleaving.specs.declared.job_view.JobView.{JobView}
use Rattle.interleaving.specs.LiveView.{View}
use Rattle.interleaving.specs.ViewStep.{live_job, pool_in}
use Rattle.report.specs.declared.story_turns.Turn.{Turn as CodeTurn}
use Rattle.report.specs.declared.story_lines.Line.{Line as CodeLine}
use Rattle.report.specs.Story.{Turn, Line, line_text, end_of, events_left_out, pool_text, queued_text, awaited_text, awaited_class, more_text}
use Rattle.report.specs.WaitsSeen.{awaited_seen}

abbrev pub turn_seen : CodeTurn → Turn
turn_seen turn = record { actor = turn.actor; text = string_bytes turn.text; is_ended = turn.is_ended; end = turn.end }

abbrev pub line_seen : CodeLine → Line
line_seen line = record { text = line.text.now; times = line.times; end = line.end }

-- the first 9 lines, a line that replaces those in the middle, and the last 10
abbrev pub shortened_seen : List CodeLine → List ℕ
shortened_seen all =
    (flat_map line_text (map line_seen (take 9 all)) ++ events_left_out (end_of (slice_get (map line_seen all) (length all - 11)) - end_of (slice_get (map line_seen all) 8)))
    ++ flat_map line_text (map line_seen (drop (length all - 10) all))

abbrev pub pool_line_seen : View → ℕ × Pool → List ℕ
pool_line_seen view (p, pool) = pool_text pool.name (pool_in view p)

abbrev pub wait_in : Plan → View → ℕ → ℕ → Phase → List ℕ
wait_in plan view j k phase.Queued = queued_text plan j k
wait_in plan view j k (phase.At i) =
    let action = slice_get (class_at plan k).body i in flat_map (awaited_text plan j k (awaited_class plan k action)) (awaited_seen view j action)
wait_in plan view j k phase.Done = []

abbrev pub wait_of_job : Plan → View → ℕ → Option JobView → List ℕ
wait_of_job plan view j None = []
wait_of_job plan view j (Some job) = wait_in plan view j job.class job.phase

unfoldable pub wait_seen : Plan → View → ℕ → List ℕ
wait_seen plan view j = wait_of_job plan view j (live_job view.jobs j)

abbrev pub waits_text : Plan → View → List ℕ → List ℕ
waits_text plan view members = flat_map (wait_seen plan view) (take 20 members) ++ more_text (length members)
