-- What the calls exported to C promise with the numbers that they return (crate call_numbers). What else they promise stands in crates frame and
-- line_call, specs/Promise, and in crate capture, specs/Samples, specs/Capture and specs/SoftOut.
pub mod Numbers
