-- A histogram of times, in the text format of Prometheus: for each bound how many times aren't above it, the sum of all
-- times, in seconds, and their number.
use Rattle.std.specs.Prelude.{ℕ, zero, suc, ◌+◌, ◌==◌, List, [], ◌++◌, codes, decimal, if◌then◌else◌}
use Rattle.fp_counters.specs.Counted.{capped}
use Rattle.fp_counters.specs.Histogram.{number_in, sum_in}
use Rattle.fp_counters.specs.declared.histogram.Histogram.{Histogram}

-- the bounds, in seconds
abbrev pub bound_of : ℕ → List ℕ
bound_of bucket =
    if bucket == 0 then codes "0.00005"
    else if bucket == 1 then codes "0.0001"
    else if bucket == 2 then codes "0.0002"
    else if bucket == 3 then codes "0.0005"
    else if bucket == 4 then codes "0.001"
    else if bucket == 5 then codes "0.002"
    else if bucket == 6 then codes "0.005"
    else if bucket == 7 then codes "0.01"
    else if bucket == 8 then codes "0.02"
    else if bucket == 9 then codes "0.05"
    else if bucket == 10 then codes "0.1"
    else if bucket == 11 then codes "0.2"
    else if bucket == 12 then codes "0.5"
    else if bucket == 13 then codes "1"
    else if bucket == 14 then codes "2"
    else if bucket == 15 then codes "5"
    else if bucket == 16 then codes "10"
    else codes "+Inf"

-- how many times are in the first buckets, this number of them
abbrev pub total_below : Histogram → ℕ → ℕ
total_below histogram zero = 0
total_below histogram (suc bucket) = capped (total_below histogram bucket + number_in histogram bucket)

abbrev pub bucket_line : List ℕ → ℕ → List ℕ
bucket_line bound count =
    codes "freephone_scp_answer_seconds_bucket{le=\"" ++ (bound ++ (codes "\"} " ++ (decimal count ++ codes "\n")))

-- the lines of the first buckets
abbrev pub bucket_lines : Histogram → ℕ → List ℕ
bucket_lines histogram zero = []
bucket_lines histogram (suc bucket) =
    bucket_lines histogram bucket ++ bucket_line (bound_of bucket) (total_below histogram (suc bucket))

abbrev pub times_heading : List ℕ
times_heading = codes "# HELP freephone_scp_answer_seconds From the read of a message to the write of its answer, of a sample.\n# TYPE freephone_scp_answer_seconds histogram\n"

abbrev pub sum_and_count : ℕ → ℕ → List ℕ
sum_and_count sum count =
    codes "freephone_scp_answer_seconds_sum " ++ (decimal sum ++ (codes "e-6\nfreephone_scp_answer_seconds_count "
    ++ (decimal count ++ codes "\n")))

abbrev pub times_text : Histogram → List ℕ
times_text histogram =
    times_heading ++ (bucket_lines histogram 18 ++ sum_and_count (sum_in histogram) (total_below histogram 18))
