-- Texts of several parts, and the buckets of a histogram one after another.
use Rattle.std.proofs.Common.{◌≡◌, ℕ, ◌+◌, List, ◌++◌, ◌∙◌, ap, append_assoc, refl, sym}
use Rattle.std.proofs.Math.Numerals.{add-one}
use Rattle.fp_counters.specs.Counted.{capped}
use Rattle.fp_counters.specs.Histogram.{number_in}
use Rattle.fp_counters.specs.declared.histogram.Histogram.{Histogram}
use Rattle.fp_metrics.specs.Times.{bound_of, bucket_line, bucket_lines, total_below}

-- four parts
pub parts : (a b c d : List ℕ) → ((a ++ b) ++ c) ++ d ≡ a ++ (b ++ (c ++ d))
parts a b c d = append_assoc (a ++ b) c d ∙ append_assoc a b (c ++ d)

-- a text to which three others were added
pub joined : (out a b c : List ℕ) (first second third : List ℕ) → first ≡ out ++ a → second ≡ first ++ b → third ≡ second ++ c
    → third ≡ out ++ (a ++ (b ++ c))
joined out a b c first second third one two three =
    three ∙ ap (λ text. text ++ c) (two ∙ ap (λ text. text ++ b) one) ∙ parts out a b c

pub more_below : (histogram : Histogram) (bucket : ℕ)
    → total_below histogram (bucket + 1) ≡ capped (total_below histogram bucket + number_in histogram bucket)
more_below histogram bucket = rw (add-one bucket) refl

pub more_lines : (histogram : Histogram) (bucket : ℕ)
    → bucket_lines histogram (bucket + 1)
    ≡ bucket_lines histogram bucket ++ bucket_line (bound_of bucket) (total_below histogram (bucket + 1))
more_lines histogram bucket = rw (add-one bucket) refl

pub one_line_more : (histogram : Histogram) (bucket : ℕ) (out text new bound : List ℕ) (total : ℕ) → bound ≡ bound_of bucket
    → total ≡ total_below histogram (bucket + 1) → text ≡ out ++ bucket_lines histogram bucket → new ≡ text ++ bucket_line bound total
    → new ≡ out ++ bucket_lines histogram (bucket + 1)
one_line_more histogram bucket out text new bound total bound_is total_is so_far new_is =
    let line : bucket_line bound total ≡ bucket_line (bound_of bucket) (total_below histogram (bucket + 1))
    = ap (λ b. bucket_line b total) bound_is ∙ ap (λ t. bucket_line (bound_of bucket) t) total_is in
    new_is ∙ ap (λ before. before ++ bucket_line bound total) so_far
    ∙ append_assoc out (bucket_lines histogram bucket) (bucket_line bound total)
    ∙ ap (λ last. out ++ (bucket_lines histogram bucket ++ last)) line ∙ ap (λ lines. out ++ lines) (sym (more_lines histogram bucket))
