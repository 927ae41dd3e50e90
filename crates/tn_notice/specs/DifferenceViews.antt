-- What the code's differences of outputs stand for.
-- Depends on differences of outputs.
use Rattle.std.specs.Option.{option_map}
use Rattle.def_notice.specs.DifferenceTexts as texts
use Rattle.tn_notice.specs.declared.difference.Side.{Side}
use Rattle.tn_notice.specs.declared.difference.Side.TheVariants.{Expected, Found}
use Rattle.tn_notice.specs.declared.difference.AlignedSide.{AlignedSide}
use Rattle.tn_notice.specs.declared.difference.AlignedSide.TheVariants as aligned
use Rattle.tn_notice.specs.declared.difference.LineRange.{LineRange}
use Rattle.tn_notice.specs.declared.difference.OutputDifference.{OutputDifference}
use Rattle.tn_notice.specs.declared.difference.OutputDifference.TheVariants.{OneLine, TwoLines, LinesWithoutText, LastLineFeed, NoLine, EndOfOutput, MoreLines, MoreDifferences, LineWithReturn, AlignedOutput, AlignedRanges, AlignedLine}

abbrev pub side_seen : Side → texts.Side
side_seen Expected = texts.expected_output
side_seen Found = texts.found_output

abbrev pub aligned_side_seen : AlignedSide → texts.AlignedSide
aligned_side_seen aligned.Both = texts.of_both
aligned_side_seen aligned.Expected = texts.of_expected
aligned_side_seen aligned.Found = texts.of_found

abbrev pub range_seen : LineRange → texts.LineRange
range_seen r = record { first = r.first; count = r.count }

abbrev pub difference_seen_of : OutputDifference → texts.OutputDifference
difference_seen_of (OneLine side n text) = texts.one_line (side_seen side) n (option_map (λ t. t.now) text)
difference_seen_of (TwoLines n one other) = texts.two_lines n one.now other.now
difference_seen_of (LinesWithoutText n) = texts.lines_without_text n
difference_seen_of (LastLineFeed n) = texts.last_line_feed n
difference_seen_of (NoLine side) = texts.no_line (side_seen side)
difference_seen_of (EndOfOutput side) = texts.end_of_output (side_seen side)
difference_seen_of (MoreLines side) = texts.more_lines (side_seen side)
difference_seen_of MoreDifferences = texts.more_differences
difference_seen_of (LineWithReturn n) = texts.line_with_return n
difference_seen_of (AlignedOutput side) = texts.aligned_output (side_seen side)
difference_seen_of (AlignedRanges one other) = texts.aligned_ranges (range_seen one) (range_seen other)
difference_seen_of (AlignedLine side text) = texts.aligned_line (aligned_side_seen side) (option_map (λ t. t.now) text)
