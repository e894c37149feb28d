mod HeadEnds
mod Looking
