-- The size of each struct of the header that never grows, in bytes, by its number (`enum fq_struct`).
use Rattle.std.specs.Prelude.{ℕ, ◌==◌, if◌then◌else◌}

abbrev pub size_in : ℕ → ℕ
size_in which =
    if which == 0 then 16
    else (if which == 1 then 56
    else (if which == 2 then 16
    else (if which == 3 then 16
    else (if which == 4 then 16
    else (if which == 5 then 40
    else 0)))))
