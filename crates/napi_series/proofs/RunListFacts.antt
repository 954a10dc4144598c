-- The lines of one more poll of a run.
use Rattle.std.proofs.Common.{◌≡◌, ◌+◌, ◌++◌, ◌<◌, ℕ, suc, Bool, List, Some, ap, append_assoc, arith, get_or, length}
use Rattle.std.proofs.{Common.{subst, sym, take}, lemmas.Option.slice_get-get_or}
use Rattle.std.specs.{Prelude.Option, List.slice_get}
use Rattle.device_rows.specs.declared.row.Row.{Row}
use Rattle.napi_series.specs.Series.{list_left, once_fields, run_poll_line, poll_line_at, poll_lines}
use Rattle.replay_rows.specs.declared.run_log.RunPoll.{RunPoll}

pub line-next : (n : ℕ) (row : Row) (used : ℕ → Bool) (list : List ℕ) (polls : List RunPoll) (k : ℕ) (d : RunPoll) → k < length polls
    → poll_lines n row used list polls (k + 1)
    ≡ poll_lines n row used list polls k ++ run_poll_line n (k + 1) row used (list_left list (take (k + 1) polls)) (get_or polls k d)
unfolding poll_lines
line-next n row used list polls k d below =
    let next : k + 1 ≡ suc k = omega arith in
    let found : slice_get polls k ≡ Some (get_or polls k d) = slice_get-get_or polls k d below in
    subst (λ (m : ℕ). poll_lines n row used list polls m
    ≡ poll_lines n row used list polls k ++ run_poll_line n (k + 1) row used (list_left list (take (k + 1) polls)) (get_or polls k d))
    (sym next) (ap (λ (o : Option RunPoll). poll_lines n row used list polls k ++ poll_line_at n row used list polls k o) found)

pub fields-at : (one two : List ℕ) (n k : ℕ) (row : Row) (used : ℕ → Bool) (is : Bool) (p q : RunPoll) → p ≡ q → is ≡ used p.device
    → two ≡ one ++ once_fields n k row is p → two ≡ one ++ once_fields n k row (used q.device) q
fields-at one two n k row used is p q same uses told =
    let at_p : two ≡ one ++ once_fields n k row (used p.device) p =
    subst (λ (b : Bool). two ≡ one ++ once_fields n k row b p) uses told in
    subst (λ (x : RunPoll). two ≡ one ++ once_fields n k row (used x.device) x) same at_p

pub five-parts : (start below fields comma list end one two three four five : List ℕ) → one ≡ start ++ below → two ≡ one ++ fields
    → three ≡ two ++ comma → four ≡ three ++ list → five ≡ four ++ end
    → five ≡ start ++ (below ++ (fields ++ (comma ++ (list ++ end))))
five-parts start below fields comma list end one two three four five a b c d e = rw (e, d, c, b, a) (simp append_assoc)
